use Rattle.std.proofs.Common.{refl, ap, ◌∙◌}
use Rattle.std.proofs.lemmas.Result.{err_from_is_err_and}
use Rattle.export.specs.Structs.{act_words}
use Rattle.export.specs.Calls.{loaded}
use Rattle.export.proofs.Whys.{same_words, load_ok, load_why}
use Rattle.export.proofs.turn.ask.Goals as goal

pub returns-in_err-c : goal.returns-in_err-c
returns-in_err-c c =
    let p = err_from_is_err_and c.from_residual-in_err-c.result c.from_residual-in_err-c.ensures.1 in
    let same = same_words _ (λ y. y.now) c.args.registers.now _ c.as_array.ensures.cases c.in_ok-registers.ensures.ok_part in
    rw (p.1, p.2) (refl, load_why c.args.registers.now _ (c.in_err-c.ensures ∙ ap loaded same) _ _ _ _)

pub returns : goal.returns
returns c =
    let same = same_words _ (λ y. y.now) c.args.registers.now _ c.as_array.ensures.cases c.in_ok-registers.ensures.ok_part in
    record {
      cpu = c.in_ok-c.c;
      was = load_ok c.args.registers.now _ (c.in_ok-c.ensures ∙ ap loaded same);
      out = c.into.ensures ∙ ap act_words c.in_ok-next_act.ensures.asked;
    }
