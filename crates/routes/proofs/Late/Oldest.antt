-- Stores arrive in the order in which a processor made them.
use Rattle.std.proofs.Common.{◌≡◌, ℕ, ◌⊎◌, List, [], ◌∷◌, sym, ◌∙◌, inl, inr}
use Rattle.routes.specs.Memory.{Mem, Store}
use Rattle.routes.specs.Promise.{OldestFirst}
use Rattle.routes.specs.Late.Rows.{AllRow, OnlyLate, store_of}
use Rattle.routes.specs.Late.Steps.{landed}
use Rattle.routes.proofs.Basics.Places.{set_val_hit, set_val_miss}
use Rattle.routes.proofs.Late.Only.{row-landed}
use Rattle.routes.proofs.Late.Arriving.{arrives_keep}

-- p made two stores, of x to (b, w) and of y to (c, v)
module _ (p b c w v x y : ℕ) where
  -- both are late and the second is not there yet; or the first is there, and what is late goes elsewhere
  abbrev Ordered : Mem → Type 0
  Ordered m = ((m.late p ≡ store_of b w x ∷ store_of c v y ∷ []) × (m.val c v ≡ y → ⊥)) ⊎ ((m.val b w ≡ x) × AllRow (λ d u z. (b ≡ d) × (w ≡ u) → ⊥) (m.late p))

  -- That stays so when p's oldest store arrives.
  ordered_landed : ((b ≡ c) × (w ≡ v) → ⊥) → (m : Mem) (s : Store) (ss : List Store) → OnlyLate p m → m.late p ≡ s ∷ ss → Ordered m → Ordered (landed p s ss m)
  unfolding AllRow
  ordered_landed apart m s ss only e (inl o) =
      let same : s ∷ ss ≡ store_of b w x ∷ store_of c v y ∷ [] = sym e ∙ o.0 in
      let first : s ≡ store_of b w x = cc in
      let second : ss ≡ store_of c v y ∷ [] = cc in
      rw (first, second) (inr (set_val_hit b w x m.val, rw (row-landed p s (store_of c v y ∷ []) m) (apart, tt)))
  ordered_landed apart m s ss only e (inr o) =
      let all : AllRow (λ d u z. (b ≡ d) × (w ≡ u) → ⊥) (s ∷ ss) = rw e at o.1 in
      inr (set_val_miss s.block s.word s.x m.val b w all.0 ∙ o.0, rw (row-landed p s ss m) all.1)

  -- Whoever sees the second sees the first.
  seen_first : (n : Mem) → n.val c v ≡ y → Ordered n → n.val b w ≡ x
  seen_first n e (inl o) = absurd (o.1 e)
  seen_first n e (inr o) = o.0

-- The promise.
pub oldest_first_lem : OldestFirst
oldest_first_lem m n p b c w v x y a late apart only ne e =
    seen_first p b c w v x y n e (arrives_keep p (Ordered p b c w v x y) (ordered_landed p b c w v x y apart) a only (inl (late, ne)))
