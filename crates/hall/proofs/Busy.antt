-- The processors that have something under way, and how many have before one.
use Rattle.std.proofs.Common.{◌≡◌, ℕ, zero, suc, ◌+◌, ◌<◌, true, List, [], ◌∷◌, length, get_or, take, is_some, Some, None, Option, cond, refl, sym, ap, ◌∙◌, subst, arith}
use Rattle.std.proofs.lemmas.List.{take_all}
use Rattle.std.proofs.lemmas.List.FromFn.{get_or-enumerate_from, length-enumerate_from}
use Rattle.std.proofs.lemmas.List.Sums.{sum_by-cons}
use Rattle.std.specs.List.{AllWithin, HoldsAt, count_by, enumerate_from}
use Rattle.script.specs.declared.request.Request.{Request}
use Rattle.hall.specs.Players.{busy_below, IsNth}

-- something is under way at a place, and at n before it
abbrev pub BusyAt : List (Option Request) → ℕ → ℕ × Option Request → Type 0
BusyAt js n x = (is_some x.1 ≡ true) × (busy_below js x.0 ≡ n)

-- Each number below their count has its processor.
some_nth : (js : List (Option Request)) (n : ℕ) → n < count_by is_some js → (at : ℕ) × (at < length js) × (is_some (get_or js at None) ≡ true) × (count_by is_some (take at js) ≡ n)
some_nth [] n h = absurd (omega arith)
some_nth (None ∷ js) n h =
    let c = sum_by-cons (λ y. cond (is_some y) 1 0) None js in
    let r = some_nth js n (omega (arith, c, h)) in
    (suc r.0, omega (arith, r.1), r.2, omega (arith, sum_by-cons (λ y. cond (is_some y) 1 0) None (take r.0 js), r.3))
some_nth (Some q ∷ js) zero h = (0, omega arith, refl, refl)
some_nth (Some q ∷ js) (suc n) h =
    let c = sum_by-cons (λ y. cond (is_some y) 1 0) (Some q) js in
    let r = some_nth js n (omega (arith, c, h)) in
    (suc r.0, omega (arith, r.1), r.2, omega (arith, sum_by-cons (λ y. cond (is_some y) 1 0) (Some q) (take r.0 js), r.3))

module _ (js : List (Option Request)) (n : ℕ) (four : length js ≡ 4) where
  -- What is chosen is the n-th.
  pub nth_from_chosen : (x : ℕ × Option Request) → BusyAt js n x → (i : ℕ) → i < length (enumerate_from 0 js) → HoldsAt (λ y. y ≡ x) (enumerate_from 0 js) i → IsNth js n x.0
  nth_from_chosen x chosen i within here =
      let inside : i < length js = omega (arith, length-enumerate_from 0 js, within) in
      let place : (0 + i, get_or js i None) ≡ x = sym (get_or-enumerate_from 0 js i (0, None) inside) ∙ here (0, None) in
      let at : i ≡ x.0 = omega (arith, ap (λ y. y.0) place) in
      let job : get_or js i None ≡ x.1 = ap (λ y. y.1) place in
      record {
        within = omega (arith, at, inside, four);
        busy = ap (λ k. is_some (get_or js k None)) (sym at) ∙ ap is_some job ∙ chosen.0;
        before = chosen.1;
      }

  -- One is chosen, if more than n have something under way.
  pub some_chosen : n < busy_below js 4 → AllWithin (λ x. BusyAt js n x → ⊥) (enumerate_from 0 js) 0 (length (enumerate_from 0 js)) → ⊥
  some_chosen more none =
      let whole : take 4 js ≡ js = take_all 4 js (omega (arith, four)) in
      let r = some_nth js n (subst (λ l. n < count_by is_some l) whole more) in
      let here = get_or-enumerate_from 0 js r.0 (0, None) r.1 in
      let P : ℕ × Option Request → Type 0 = λ x. BusyAt js n x → ⊥ in
      subst P here (none r.0 (0, None) (omega arith) (omega (arith, length-enumerate_from 0 js, r.1))) (r.2, ap (λ k. busy_below js k) (let z : 0 + r.0 ≡ r.0 = omega arith in z) ∙ r.3)
