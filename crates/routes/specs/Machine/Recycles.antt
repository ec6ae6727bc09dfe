-- Recycle: the oldest retired node becomes a fresh block.
-- Assumes nothing.
use Rattle.std.specs.Prelude.{ℕ, ◌+◌, ◌<◌, ◌≤◌, cond, List, ◌==◌, slice_set}
use Rattle.words.specs.Slots.{child_of}
use Rattle.own.specs.Layout.{fresh_at}
use Rattle.routes.specs.declared.act.Act.{Act}
use Rattle.routes.specs.declared.act.Act.TheVariants.{Load, Store}
use Rattle.routes.specs.declared.update.job.Job.{Job}
use Rattle.routes.specs.declared.update.recycle.Recycle.{Recycle}
use Rattle.routes.specs.declared.update.recycle.Recycle.TheVariants.{Head, RetiredAt, Next, SetHead, SetTail}
use Rattle.routes.specs.declared.update.scan.Scan.TheVariants.{ForNode}
use Rattle.routes.specs.declared.update.Phase.TheVariants.{Recycle as InRecycle, Scan as InScan}
use Rattle.routes.specs.Memory.{Mem}
use Rattle.routes.specs.Machine.Acts.{PhaseReady, MovedOwn}
use Rattle.routes.specs.Machine.Jobs.{having}
use Rattle.routes.specs.Machine.Obtains.{gathering, undoing}
use Rattle.routes.specs.Machine.Nexts.{UpdateNext}
use Rattle.std.specs.declared.ops.ControlFlow.TheVariants.{Continue}

-- the oldest retired node, if there is one
abbrev pub oldest : Job → ℕ → UpdateNext
oldest j b = cond (b == 0) (undoing j) (Continue (j, InRecycle (RetiredAt b)))

-- the head of limbo is what followed the node
abbrev pub unlinked : Job → ℕ → UpdateNext
unlinked j next = cond (next == 0) (Continue (j, InRecycle SetTail)) (gathering j)

abbrev pub RecycleOk : Job → Recycle → Type 0
RecycleOk j Head = Unit {0}
RecycleOk j (RetiredAt b) = Unit {0}
RecycleOk j (Next b g) = Unit {0}
RecycleOk j (SetHead b next g) = (j.got < j.need) × (j.need ≤ 72)
RecycleOk j SetTail = Unit {0}

abbrev pub recycle_act : Recycle → Act
recycle_act Head = Load 0 3
recycle_act (RetiredAt b) = Load b 31
recycle_act (Next b g) = Load b 32
recycle_act (SetHead b next g) = Store 0 3 next
recycle_act SetTail = Store 0 4 0

abbrev pub recycle_after : Job → Recycle → ℕ → UpdateNext
recycle_after j Head x = oldest j (child_of x)
recycle_after j (RetiredAt b) x = Continue (j, InScan (ForNode 0 b x))
recycle_after j (Next b g) x = Continue (j, InRecycle (SetHead b (child_of x) g))
recycle_after j (SetHead b next g) x = unlinked (having (j.got + 1) j) next
recycle_after j SetTail x = gathering j

abbrev pub recycle_words : Job → Recycle → List ℕ → ℕ → List ℕ
recycle_words j Head o x = o
recycle_words j (RetiredAt b) o x = o
recycle_words j (Next b g) o x = o
recycle_words j (SetHead b next g) o x = slice_set o (fresh_at j.got) b
recycle_words j SetTail o x = o

abbrev pub RecycleReady : Mem → ℕ → Job → Recycle → List ℕ → Type 0
RecycleReady m p j s o = PhaseReady m p (recycle_act s) (RecycleOk j s) o

abbrev pub RecycleMoved : ℕ → Job → Recycle → Mem → List ℕ → UpdateNext → Mem → List ℕ → Type 0
RecycleMoved p j s m o r n u = MovedOwn p (recycle_act s) (recycle_after j s) (recycle_words j s o) m r n u
