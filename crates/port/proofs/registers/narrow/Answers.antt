use Rattle.std.proofs.Common.{◌≡◌, Bool, true, false, ◌&&◌, leb, List, [], ◌∷◌, fold, refl, ◌∙◌, rules, tests}
use Rattle.std.proofs.lemmas.Iterator.{YieldsList-from_slice}
use Rattle.std.proofs.lemmas.Iterator.Consumers.{YieldsList-from_enumerate, fold_from_yields_List}
use Rattle.std.specs.List.{enumerate_from, list_all}
use Rattle.port.specs.Registers.{most_at}
use Rattle.port.proofs.registers.narrow.Goals as goal

-- A fold that joins tests is the test of all.
joined : {X : Type 0} (test : X → Bool) (b : Bool) (xs : List X) → fold (λ a x. a && test x) b xs ≡ b && list_all test xs
joined test true [] = refl
joined test false [] = refl
joined test true (x ∷ xs) = joined test (test x) xs
joined test false (x ∷ xs) = joined test false xs

pub returns : goal.returns
returns c =
    let words = c.args.words.now in
    let chain = YieldsList-from_enumerate (YieldsList-from_slice words (cc)) (cc) in
    fold_from_yields_List _ (λ a p. a && leb p.1 (most_at p.0)) true c.fold.result c.fold.ensures.ran chain (λ a x b q k. search (rules, tests))
    ∙ joined (λ p. leb p.1 (most_at p.0)) true (enumerate_from 0 words)
