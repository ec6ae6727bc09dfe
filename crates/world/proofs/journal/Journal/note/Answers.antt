use Rattle.std.proofs.Common.{refl, arith, length-set}
use Rattle.world.proofs.Journals.{stack_push}
use Rattle.world.proofs.journal.Journal.note.Goals as goal

pub returns : goal.returns
returns c = record { notes = stack_push _ _ _ (omega arith); kinds = refl; room = (simp length-set (omega arith), refl) }
