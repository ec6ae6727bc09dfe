use Rattle.std.proofs.Common.{rules, arith, ◌≡◌, ℕ, zero, suc, ◌+◌, ◌-◌, ◌*◌, ◌≤◌, ◌∙◌, eqb, List, length, take, drop, refl, add-one}
use Rattle.std.specs.List.{list_all}
use Rattle.std.proofs.lemmas.List.{get_or-drop, length-drop}
use Rattle.std.proofs.lemmas.List.Folds.{list_all_more}
use Rattle.std.proofs.lemmas.Iterator.{YieldsList-from_slice}
use Rattle.std.proofs.lemmas.Iterator.Search.{all_from_yields_List}
use borrow.Author.Tests.{tests}
use Rattle.own.specs.Layout.{words_of}
use Rattle.own.specs.Images.{noughts}
use Rattle.own.proofs.image.is_empty.Goals as goal

-- That all words of a part are 0 is said of their places.
all_noughts : (o : List ℕ) (a n : ℕ) → a + n ≤ length o → list_all (λ x. eqb x 0) (take n (drop a o)) ≡ noughts n (λ i. words_of o (a + i))
unfolding noughts
all_noughts o a zero h = refl
all_noughts o a (suc n) h = rw (← add-one) (list_all_more (λ x. eqb x 0) (drop a o) n 0 (omega (arith, length-drop a o)) ∙ (cc (all_noughts o a n (omega arith), get_or-drop a o n 0)))

pub returns : goal.returns
returns c =
    let start : c.image_at.result ≡ 32 + 32 * c.args.d = omega arith in
    let many : c.image_at-2.result - c.image_at.result ≡ 31 = omega arith in
    all_from_yields_List (λ x. eqb x 0) _ _ c.all.result c.all.ensures.ran (YieldsList-from_slice (take 31 (drop (32 + 32 * c.args.d) c.args.own.now)) (rw (← start, ← many) c.iter.ensures.rest)) (λ x b q k. search (rules, tests))
    ∙ all_noughts c.args.own.now (32 + 32 * c.args.d) 31 (omega arith)
