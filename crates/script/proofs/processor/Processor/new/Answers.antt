use Rattle.std.proofs.Common.{sym, refl}
use Rattle.script.proofs.Numbered.{numbered_is}
use Rattle.script.proofs.processor.Processor.new.Goals as goal

pub returns-then-number-from : goal.returns-then-number-from
returns-then-number-from g c = sym (numbered_is g.row.CPUS _ _ refl)
