-- Finish: fresh blocks that were not used go back, and the lock is given up in the turn in which the update is told.
-- Assumes nothing.
use Rattle.std.specs.Prelude.{ℕ, ◌+◌, ◌<◌, cond, List, nat_lt}
use Rattle.routes.specs.declared.Answer.TheVariants.{Done}
use Rattle.routes.specs.declared.act.Act.{Act}
use Rattle.routes.specs.declared.act.Act.TheVariants.{Swap, Release}
use Rattle.routes.specs.declared.update.job.Job.{Job}
use Rattle.routes.specs.declared.update.finish.Finish.{Finish}
use Rattle.routes.specs.declared.update.finish.Finish.TheVariants.{Unused, Unlock}
use Rattle.routes.specs.declared.update.Phase.{Phase}
use Rattle.routes.specs.declared.update.Phase.TheVariants.{Finish as InFinish}
use Rattle.routes.specs.Memory.{Mem}
use Rattle.routes.specs.Machine.Acts.{PhaseReady, Moved}
use Rattle.routes.specs.Machine.Jobs.{using'}
use Rattle.routes.specs.Machine.Obtains.{fresh_in}
use Rattle.routes.specs.Machine.Nexts.{UpdateNext}
use Rattle.std.specs.declared.ops.ControlFlow.TheVariants.{Continue, Break}

-- where an update goes when it has reclaimed
abbrev pub finishing : Job → Phase
finishing j = cond (nat_lt j.used j.got) (InFinish Unused) (InFinish Unlock)

abbrev pub FinishOk : Job → Finish → Type 0
FinishOk j Unused = j.used < 72
FinishOk j Unlock = Unit {0}

abbrev pub finish_act : ℕ → Job → Finish → List ℕ → Act
finish_act p j Unused o = Release (fresh_in o j.used)
finish_act p j Unlock o = Swap 0 0 (p + 1) 0

abbrev pub finish_after : Job → Finish → ℕ → UpdateNext
finish_after j Unused x = Continue (using' (j.used + 1) j, finishing (using' (j.used + 1) j))
finish_after j Unlock x = Break Done

abbrev pub FinishReady : Mem → ℕ → Job → Finish → List ℕ → Type 0
FinishReady m p j s o = PhaseReady m p (finish_act p j s o) (FinishOk j s) o

abbrev pub FinishMoved : ℕ → Job → Finish → Mem → List ℕ → UpdateNext → Mem → Type 0
FinishMoved p j s m o r n = Moved p (finish_act p j s o) (finish_after j s) m r n
