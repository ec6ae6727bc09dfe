-- Own words as a function: what a write leaves.
use Rattle.std.proofs.Common.{◌≡◌, ℕ, ◌<◌, List, length, set, ap, ◌∙◌, inl, inr, arith, get_or-set_other, get_or-set_same}
use mathlib.Core.Path.{fun_ext}
use Rattle.std.proofs.lemmas.Bool.Decides.{nat_tests, eqb_tells}
use Rattle.own.specs.Layout.{words_of, put}

-- A write changes the function at one place.
pub words_set : (o : List ℕ) (i x : ℕ) → i < length o → words_of (set o i x) ≡ put i x (words_of o)
words_set o i x h = fun_ext (λ j. elim (eqb_tells j i) [
  | inl e ↦ rw e.0 (rw e.1 (get_or-set_same o i x 0 h))
  | inr e ↦ rw e.0 (get_or-set_other o i j x 0 e.1)
])

-- The same, where the words before are known as a function.
pub words_then : (o : List ℕ) (i x : ℕ) (f : ℕ → ℕ) → i < length o → words_of o ≡ f → words_of (set o i x) ≡ put i x f
words_then o i x f h e = words_set o i x h ∙ ap (put i x) e

-- At the place itself stands what was written.
pub put_hit : (i x : ℕ) (f : ℕ → ℕ) → put i x f i ≡ x
put_hit i x f = grind (arith, nat_tests)

-- Elsewhere all is as before.
pub put_miss : (i x : ℕ) (f : ℕ → ℕ) (j : ℕ) → (j ≡ i → ⊥) → put i x f j ≡ f j
put_miss i x f j ne = grind (arith, nat_tests)
