-- An array that a closure was called for, index by index.
use Rattle.std.proofs.Common.{◌≡◌, ℕ, zero, suc, ◌+◌, ◌<◌, List, map, get_or, ◌∙◌, subst, arith}
use Rattle.std.proofs.lemmas.List.FromFn.{fill_by_all}
use Rattle.std.specs.Array.{IsFromFnResultFrom, IsFromFnResult}
use Rattle.std.specs.Fn.{Called, Mut}
use Rattle.std.specs.List.{range_with_len}

module _ {F B : Type 0} (g : Mut F (ℕ × Unit {0}) B) (h : ℕ → B) (f : F) (step : (k : ℕ) (y : B) (q : F) → Called g f (k, tt) y q → (q ≡ f) × (y ≡ h k)) where
  -- The calls from index i on gave the elements there.
  gave : (ys : List B) (i n : ℕ) → IsFromFnResultFrom g f ys i n → (k j : ℕ) (d : B) → k < n → i + k ≡ j → get_or ys j d ≡ h j
  gave ys i zero each k j d lt e = absurd (omega arith)
  gave ys i (suc n) (q, y, at, called, rest) zero j d lt e =
      let same : i ≡ j = omega arith in
      subst (λ j. get_or ys j d ≡ h j) same (at.1 d ∙ (step i y q called).1)
  gave ys i (suc n) (q, y, at, called, rest) (suc k) j d lt e =
      gave ys (i + 1) n (subst (λ p. IsFromFnResultFrom g p ys (i + 1) n) (step i y q called).0 rest) k j d (omega arith) (omega arith)

  -- The array has the closure's result at each index.
  pub made : (ys : List B) (n : ℕ) (d : B) → IsFromFnResult g f ys n → ys ≡ map h (range_with_len 0 n)
  made ys n d r = fill_by_all h ys n d r.long (λ k lt. gave ys 0 n r.each k k d lt (omega arith))
