-- What is promised beside the main promise, and may be bettered.
-- Assumes nothing.
use Rattle.std.specs.Prelude.{◌≡◌, ℕ, ◌≤◌, false, T, List, [], ◌∷◌, ◌≢◌}
use mathlib.Core.List.{Memᴰ}
use Rattle.routes.specs.declared.Answer.TheVariants.{Found, Nothing}
use Rattle.routes.specs.declared.Piece.{Piece}
use Rattle.routes.specs.Memory.{Mem, Arrives}
use Rattle.routes.specs.Routes.{Route, fits, clean, find, Table, changed, Event, State, Run}

-- 1. What is found is the longest route that fits, and nothing only if none does.
abbrev pub FindsLongest : Type 0
FindsLongest =
    (a : ℕ) (rs : List Route) →
    ((n t : ℕ) → find a rs ≡ Found n t → (r : Route) × Memᴰ r rs × (r.len ≡ n) × (r.tells ≡ t) × T (fits r.len r.bits a) × ((q : Route) → Memᴰ q rs → T (fits q.len q.bits a) → q.len ≤ n)) ×
    (find a rs ≡ Nothing → (q : Route) → Memᴰ q rs → fits q.len q.bits a ≡ false)

-- 2. There is one route for a length and its bits, and every route's bits are clean, whatever was changed.
abbrev pub OneRoute : Type 0
OneRoute =
    (cpus blocks : ℕ) (es : List Event) (s : State) → Run cpus blocks es s →
    ((q r : Route) → Memᴰ q s.table → Memᴰ r s.table → q.len ≡ r.len → q.bits ≡ r.bits → q ≡ r) × ((q : Route) → Memᴰ q s.table → T (clean q.len q.bits))

-- 3. All pieces of a change or none, and what is asked of one address is changed only by pieces that fit it.
abbrev pub OnlyWhatFits : Type 0
OnlyWhatFits = (ps : List Piece) (rs qs : List Route) (a : ℕ) → changed ps rs ≡ Table qs → ((p : Piece) → Memᴰ p ps → fits p.len p.bits a ≡ false) → find a qs ≡ find a rs

-- 4. Stores arrive in the order in which a processor made them: whoever sees the second of two, and nobody else stored there, sees the first, if it looks for the second first.
abbrev pub OldestFirst : Type 0
OldestFirst =
    (m n : Mem) (p b c w v x y : ℕ) → Arrives m n → m.late p ≡ (record { block = b; word = w; x = x } ∷ record { block = c; word = v; x = y } ∷ []) → ((b ≡ c) × (w ≡ v) → ⊥) → ((q : ℕ) → (q ≢ p) → m.late q ≡ []) →
    (m.val c v ≢ y) → n.val c v ≡ y → n.val b w ≡ x
