-- What a turn leads to: something that is still under way, or an answer.
-- Assumes nothing.
use Rattle.std.specs.declared.ops.ControlFlow.{ControlFlow}
use Rattle.routes.specs.declared.Answer.{Answer}
use Rattle.routes.specs.declared.lookup.Lookup.{Lookup}
use Rattle.routes.specs.declared.update.job.Job.{Job}
use Rattle.routes.specs.declared.update.Phase.{Phase}

abbrev pub LookupNext : Type 0
LookupNext = ControlFlow Answer Lookup

abbrev pub UpdateNext : Type 0
UpdateNext = ControlFlow Answer (Job × Phase)
