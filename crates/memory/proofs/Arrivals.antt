-- Arriving, fences and stores, of any memory.
use Rattle.std.proofs.Common.{◌≡◌, ℕ, ◌+◌, true, false, List, [], ◌∷◌, ◌++◌, length, sym, refl, ap, ◌∙◌, subst, add-one}
use Rattle.std.proofs.lemmas.Bool.{false≢true, eq-eqb, ne_eqb}
use Rattle.routes.specs.Memory.{Mem, Store, set_at, set_val, with', counted, arrived, fenced, swapped, stored, oldest, Arrives, rest, one}
use Rattle.routes.proofs.Basics.Places.{set_at_hit, set_at_again}
use Rattle.routes.proofs.Late.Arriving.{oldest_none}
use Rattle.routes.proofs.Late.Fence.{fence_none}
use Rattle.memory.specs.Rings.{any_late}

-- What is the same has arrived.
pub arrives_same : {m n : Mem} → m ≡ n → Arrives m n
arrives_same {m} e = subst (Arrives m) e (rest m)

-- What the oldest store of a row makes of a memory has arrived.
pub arrives_oldest : (p : ℕ) {m n : Mem} → n ≡ oldest p (m.late p) m → Arrives m n
arrives_oldest p e = one p (arrives_same (sym e))

-- A fence comes to the same if the oldest store has arrived before it.
pub fence_oldest : (p : ℕ) (m : Mem) → fenced p (oldest p (m.late p) m) ≡ fenced p m
unfolding oldest arrived
fence_oldest p m = go (m.late p) refl
  where
    go : (row : List Store) → m.late p ≡ row → fenced p (oldest p row m) ≡ fenced p m
    go [] e = refl
    go (s ∷ ss) e = rw (set_at_hit p p ss m.late refl, set_at_again p [] ss m.late, e) refl

-- An empty row is known by that.
any_none : (ss : List Store) → any_late ss ≡ false → ss ≡ []
unfolding any_late
any_none [] e = refl
any_none (s ∷ ss) e = absurd (false≢true (sym e))

-- The oldest store arrives, and a fence is still to come.
pub fence_step : (p : ℕ) (m n : Mem) → n ≡ oldest p (m.late p) m → fenced p n ≡ fenced p m
fence_step p m n e = ap (fenced p) e ∙ fence_oldest p m

-- None is left: the fence is over.
pub fence_over : (p : ℕ) (m n : Mem) → n ≡ oldest p (m.late p) m → any_late (m.late p) ≡ false → n ≡ fenced p m
fence_over p m n e none = let empty = any_none (m.late p) none in e ∙ (oldest_none p m empty ∙ sym (fence_none p m empty))

-- When the oldest has arrived, the row is shorter by one.
pub oldest_shorter : (p : ℕ) (m n : Mem) → n ≡ oldest p (m.late p) m → any_late (m.late p) ≡ true → length (n.late p) + 1 ≡ length (m.late p)
unfolding oldest any_late
oldest_shorter p m n e any = rw e (go (m.late p) refl any)
  where
    go : (row : List Store) → m.late p ≡ row → any_late row ≡ true → length ((oldest p row m).late p) + 1 ≡ length (m.late p)
    go [] q a = absurd (false≢true a)
    go (s ∷ ss) q a = rw (set_at_hit p p ss m.late refl, q) (add-one (length ss))

-- A store comes to the same if the oldest has arrived before it, or after it.
pub store_oldest : (p b w x : ℕ) (m : Mem) → any_late (m.late p) ≡ true → oldest p ((stored p b w x m).late p) (stored p b w x m) ≡ stored p b w x (oldest p (m.late p) m)
unfolding oldest any_late
store_oldest p b w x m any = go (m.late p) refl any
  where
    go : (row : List Store) → m.late p ≡ row → any_late row ≡ true → oldest p ((stored p b w x m).late p) (stored p b w x m) ≡ stored p b w x (oldest p row m)
    go [] e a = absurd (false≢true a)
    go (s ∷ ss) e a =
        let new : Store = record { block = b; word = w; x = x } in
        let row : set_at p (m.late p ++ (new ∷ [])) m.late p ≡ s ∷ (ss ++ (new ∷ [])) = set_at_hit p p _ m.late refl ∙ ap (λ r. r ++ (new ∷ [])) e in
        rw (row, set_at_hit p p ss m.late refl, set_at_again p (ss ++ (new ∷ [])) (m.late p ++ (new ∷ [])) m.late, set_at_again p (ss ++ (new ∷ [])) ss m.late) refl

-- A store after the oldest has arrived is the store, and then the arriving.
pub store_later : (p : ℕ) (m n : Mem) → n ≡ oldest p (m.late p) m → any_late (m.late p) ≡ true → (b w x : ℕ) → Arrives (stored p b w x m) (stored p b w x n)
store_later p m n e any b w x = one p (arrives_same (store_oldest p b w x m any ∙ ap (stored p b w x) (sym e)))

-- A swap finds what it looks for, and the word is new.
pub swap_hit : (p b w old new : ℕ) (m k n : Mem) → k ≡ fenced p (counted m) → k.val b w ≡ old → n ≡ with' (set_val b w new k.val) k.held k.late k → n ≡ counted (swapped p b w old new m)
swap_hit p b w old new m k n e hit set =
    let found : (fenced p m).val b w ≡ old = ap (λ (j : Mem). j.val b w) (sym e) ∙ hit in
    rw (eq-eqb ((fenced p m).val b w) old found) (set ∙ ap (λ (j : Mem). with' (set_val b w new j.val) j.held j.late j) e)

-- It does not, and nothing more is done.
pub swap_miss : (p b w old new : ℕ) (m k : Mem) → k ≡ fenced p (counted m) → (k.val b w ≡ old → ⊥) → k ≡ counted (swapped p b w old new m)
swap_miss p b w old new m k e miss =
    let other : (fenced p m).val b w ≡ old → ⊥ = λ f. miss (ap (λ (j : Mem). j.val b w) e ∙ f) in
    rw (ne_eqb ((fenced p m).val b w) old other) e
