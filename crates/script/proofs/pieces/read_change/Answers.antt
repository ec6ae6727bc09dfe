use Rattle.std.proofs.Common.{◌≡◌, ◌+◌, ◌++◌, [], ◌∷◌, eqb, length, sym, ◌∙◌, rules, tests, arith}
use Rattle.std.proofs.lemmas.Iterator.Consumers.{YieldsList-turn, YieldsList-end}
use Rattle.std.proofs.lemmas.Iterator.Splits.{YieldsList-from_slice_split}
use Rattle.std.proofs.lemmas.List.{at_drop_all, length_push}
use Rattle.std.proofs.lemmas.Result.{err_from_is_err_and}
use Rattle.script.specs.Pieces.{parts, gathered}
use Rattle.script.proofs.Gathering.{gather_more, gather_wrong}
use Rattle.script.proofs.pieces.read_change.Goals as goal

pub returns-in_err-read_piece : goal.returns-in_err-read_piece
returns-in_err-read_piece c =
    let here = YieldsList-turn (YieldsList-from_slice_split _ (λ b. eqb b 44) c.args.text.now (cc) (cc) (cc) (λ x b q k. search (rules, tests))) c.loop-part.yielded _ c.loop-part.yielded_by _ _ c.in-Some.part c.in-Some.is c.next.ensures.steps in
    let p = err_from_is_err_and c.from_residual.result c.from_residual.ensures.1 in
    rw (p.1, p.2) (gather_wrong _ _ _ _ _ c.loop-part.invariant here _ c.in_err-read_piece.ensures)

pub loop-part-preserved : goal.loop-part-preserved
loop-part-preserved c =
    let here = YieldsList-turn (YieldsList-from_slice_split _ (λ b. eqb b 44) c.args.text.now (cc) (cc) (cc) (λ x b q k. search (rules, tests))) c.loop-part.yielded _ c.loop-part.yielded_by _ _ c.in-Some.part c.in-Some.is c.next.ensures.steps in
    let one : length (c.loop-part.yielded ++ (c.in-Some.part ∷ [])) ≡ length c.loop-part.yielded + 1 = length_push c.loop-part.yielded c.in-Some.part in
    rw (c.keep.ensures, one) (gather_more _ _ _ _ _ c.loop-part.invariant here _ c.in_ok-read_piece.ensures)

pub returns : goal.returns
unfolding gathered
returns c =
    let over = YieldsList-end (YieldsList-from_slice_split _ (λ b. eqb b 44) c.args.text.now (cc) (cc) (cc) (λ x b q k. search (rules, tests))) c.loop-part.yielded _ c.loop-part.yielded_by _ _ c.in-None.is c.next.ensures.steps in
    sym (at_drop_all (gathered c.loop-part.change) (parts c.args.text.now) (length c.loop-part.yielded) (omega (arith, over.1))) ∙ c.loop-part.invariant
