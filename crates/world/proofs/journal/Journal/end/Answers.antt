use Rattle.std.proofs.Common.{refl, arith}
use Rattle.world.proofs.Journals.{stack_push}
use Rattle.world.proofs.journal.Journal.end.Goals as goal

pub returns : goal.returns
returns c = record { kinds = stack_push _ _ _ (omega arith); notes = refl }
