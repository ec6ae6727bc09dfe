-- A list written at one place, as a function of the place.
use Rattle.std.proofs.Common.{◌≡◌, ℕ, ◌<◌, List, length, get_or, set, inl, inr, get_or-set_other, get_or-set_same}
use Rattle.std.proofs.lemmas.Bool.Decides.{eqb_tells}
use Rattle.routes.specs.Memory.{set_at}

-- At the place itself it is what was written, elsewhere as before.
pub set_at_lem : {A : Type 0} (xs : List A) (i : ℕ) (y d : A) → i < length xs → (j : ℕ) → get_or (set xs i y) j d ≡ set_at i y (λ k. get_or xs k d) j
set_at_lem xs i y d h j = elim (eqb_tells j i) [
  | inl e ↦ rw (e.0, e.1) (get_or-set_same xs i y d h)
  | inr e ↦ rw e.0 (get_or-set_other xs i j y d e.1)
]
