-- An update as a machine: its phases put together.
-- Assumes nothing.
use Rattle.std.specs.Prelude.{ℕ, ◌+◌, cond, List, ◌==◌}
use Rattle.routes.specs.declared.Answer.TheVariants.{No}
use Rattle.routes.specs.declared.act.Act.{Act}
use Rattle.routes.specs.declared.act.Act.TheVariants.{Swap, Pause}
use Rattle.routes.specs.declared.update.job.Job.{Job}
use Rattle.routes.specs.declared.update.check.Check.TheVariants.{Piece}
use Rattle.routes.specs.declared.update.Phase.{Phase}
use Rattle.routes.specs.declared.update.Phase.TheVariants.{Refuse, Lock, Check, Obtain, Recycle, Scan, Build, Publish, Retire, Reclaim, Finish}
use Rattle.routes.specs.Memory.{Mem}
use Rattle.routes.specs.Machine.Acts.{PhaseReady, MovedOwn}
use Rattle.routes.specs.Machine.Checks.{CheckOk, check_act, check_after}
use Rattle.routes.specs.Machine.Obtains.{ObtainOk, obtain_act, obtain_after, obtain_words}
use Rattle.routes.specs.Machine.Recycles.{RecycleOk, recycle_act, recycle_after, recycle_words}
use Rattle.routes.specs.Machine.Scans.{ScanOk, scan_act, scan_after}
use Rattle.routes.specs.Machine.Builds.{BuildOk, build_act, build_after, build_words}
use Rattle.routes.specs.Machine.Publishes.{publish_act, publish_after}
use Rattle.routes.specs.Machine.Retires.{RetireOk, retire_act, retire_after}
use Rattle.routes.specs.Machine.Reclaims.{reclaim_act, reclaim_after}
use Rattle.routes.specs.Machine.Finishes.{FinishOk, finish_act, finish_after}
use Rattle.routes.specs.Machine.Nexts.{UpdateNext}
use Rattle.std.specs.declared.ops.ControlFlow.TheVariants.{Continue, Break}

-- the lock was free, or it has to be tried again
abbrev pub after_lock : ℕ → Phase
after_lock x = cond (x == 0) (Check (Piece 0)) Lock

abbrev pub UpdateOk : Job → Phase → List ℕ → Type 0
UpdateOk j Refuse o = Unit {0}
UpdateOk j Lock o = Unit {0}
UpdateOk j (Check s) o = CheckOk j s o
UpdateOk j (Obtain s) o = ObtainOk j s
UpdateOk j (Recycle s) o = RecycleOk j s
UpdateOk j (Scan s) o = ScanOk s
UpdateOk j (Build s) o = BuildOk j s o
UpdateOk j (Publish s) o = Unit {0}
UpdateOk j (Retire s) o = RetireOk j s
UpdateOk j (Reclaim s) o = Unit {0}
UpdateOk j (Finish s) o = FinishOk j s

abbrev pub update_act : ℕ → Job → Phase → List ℕ → Act
update_act p j Refuse o = Pause
update_act p j Lock o = Swap 0 0 0 (p + 1)
update_act p j (Check s) o = check_act p s o
update_act p j (Obtain s) o = obtain_act p j s o
update_act p j (Recycle s) o = recycle_act s
update_act p j (Scan s) o = scan_act s
update_act p j (Build s) o = build_act s o
update_act p j (Publish s) o = publish_act j s
update_act p j (Retire s) o = retire_act j s o
update_act p j (Reclaim s) o = reclaim_act s
update_act p j (Finish s) o = finish_act p j s o

-- by the number of processors and the reply
abbrev pub update_after : ℕ → Job → Phase → List ℕ → ℕ → UpdateNext
update_after cpus j Refuse o x = Break (No 1)
update_after cpus j Lock o x = Continue (j, after_lock x)
update_after cpus j (Check s) o x = check_after j s o x
update_after cpus j (Obtain s) o x = obtain_after j s x
update_after cpus j (Recycle s) o x = recycle_after j s x
update_after cpus j (Scan s) o x = Continue (j, scan_after cpus s x)
update_after cpus j (Build s) o x = build_after j s o x
update_after cpus j (Publish s) o x = Continue (j, publish_after s x)
update_after cpus j (Retire s) o x = Continue (j, retire_after j s x)
update_after cpus j (Reclaim s) o x = Continue (j, reclaim_after j s x)
update_after cpus j (Finish s) o x = finish_after j s x

abbrev pub update_words : Job → Phase → List ℕ → ℕ → List ℕ
update_words j Refuse o x = o
update_words j Lock o x = o
update_words j (Check s) o x = o
update_words j (Obtain s) o x = obtain_words j s o x
update_words j (Recycle s) o x = recycle_words j s o x
update_words j (Scan s) o x = o
update_words j (Build s) o x = build_words j s o x
update_words j (Publish s) o x = o
update_words j (Retire s) o x = o
update_words j (Reclaim s) o x = o
update_words j (Finish s) o x = o

abbrev pub UpdateReady : Mem → ℕ → Job → Phase → List ℕ → Type 0
UpdateReady m p j s o = PhaseReady m p (update_act p j s o) (UpdateOk j s o) o

abbrev pub UpdateMoved : ℕ → Job → Phase → Mem → List ℕ → UpdateNext → Mem → List ℕ → Type 0
UpdateMoved p j s m o r n u = MovedOwn p (update_act p j s o) (update_after m.cpus j s o) (update_words j s o) m r n u
