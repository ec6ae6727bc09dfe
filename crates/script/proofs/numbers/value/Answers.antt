use Rattle.std.proofs.Common.{◌∙◌}
use Rattle.script.proofs.Values.{reads_none}
use Rattle.script.proofs.numbers.value.Goals as goal

pub returns-in_err-n : goal.returns-in_err-n
returns-in_err-n c = c.from_residual.ensures ∙ reads_none c.args.radix c.loop-b.n _ c.args.digits.now _ c.loop-b.invariant.0 c.requires c.loop-b-test.true (c.from.ensures ∙ c.digit_value.ensures) c.in_err-n.ensures
