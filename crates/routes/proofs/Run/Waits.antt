-- Who asks, and who is waited for.
use Rattle.std.proofs.Common.{◌≡◌, ℕ, zero, suc, true, false, not, ◌&&◌, eqb, ltb, List, [], ◌∷◌, refl, arith}
use Rattle.std.proofs.lemmas.Bool.Decides.{nat_tests}
use Rattle.std.proofs.lemmas.Bool.{not-false, or_parts}
use Rattle.routes.specs.Routes.{State, is_question, asking, none, gone, must_wait}
use Rattle.routes.specs.Run.Nows.{in_list}

-- Those who ask are those below n with a question under way.
pub in_asking : (q n : ℕ) (s : State) → in_list q (asking n s) ≡ (ltb q n && is_question (s.now' q))
unfolding in_list asking
in_asking q zero s = grind (arith, nat_tests)
in_asking q (suc n) s = let ih = in_asking q n s in grind (arith, nat_tests)

-- p is gone, and others are as before.
pub in_gone : (q p : ℕ) (xs : List ℕ) → in_list q (gone p xs) ≡ (not (eqb q p) && in_list q xs)
unfolding in_list gone
in_gone q p [] = grind (arith, nat_tests)
in_gone q p (x ∷ xs) = let ih = in_gone q p xs in grind (arith, nat_tests)

-- A list with nobody in it is empty.
pub none_empty : (xs : List ℕ) → none xs ≡ true → xs ≡ []
unfolding none
none_empty [] e = refl
none_empty (x ∷ xs) e = cc

-- A list with somebody in it is not empty.
pub in_some : (q : ℕ) (xs : List ℕ) → in_list q xs ≡ true → none xs ≡ false
unfolding none in_list
in_some q [] e = cc
in_some q (x ∷ xs) e = refl

-- Who need not wait waits for nobody.
pub waits_none : (n p : ℕ) (s : State) → must_wait n p s ≡ false → s.waits p ≡ []
waits_none n p s e = none_empty (s.waits p) (not-false _ (or_parts _ _ e).0)

-- Who waits for somebody must wait.
pub waits_some : (n p q : ℕ) (s : State) → in_list q (s.waits p) ≡ true → must_wait n p s ≡ true
waits_some n p q s e = rw (in_some q (s.waits p) e) refl
