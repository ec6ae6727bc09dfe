use Rattle.std.proofs.Common.{refl}
use Rattle.world.specs.Journals.{stack_of, events_of}
use Rattle.world.proofs.journal.Journal.new.Goals as goal

pub returns : goal.returns
unfolding stack_of events_of
returns c = (refl, (refl, (refl, refl)))
