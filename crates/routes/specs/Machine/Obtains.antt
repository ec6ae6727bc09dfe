-- Obtain: all blocks that the update may need.
-- Assumes nothing.
use Rattle.std.specs.Prelude.{ℕ, zero, suc, ◌+◌, ◌-◌, ◌<◌, ◌≤◌, cond, List, nat_lt, slice_set}
use Rattle.words.specs.Slots.{child_of}
use Rattle.own.specs.Layout.{words_of, fresh_at}
use Rattle.routes.specs.declared.Answer.TheVariants.{Full as FullAnswer}
use Rattle.routes.specs.declared.act.Act.{Act}
use Rattle.routes.specs.declared.act.Act.TheVariants.{Swap, Obtain as Ask, Release}
use Rattle.routes.specs.declared.update.job.Job.{Job}
use Rattle.routes.specs.declared.update.build.Build.TheVariants.{Root}
use Rattle.routes.specs.declared.update.obtain.Obtain.{Obtain}
use Rattle.routes.specs.declared.update.obtain.Obtain.TheVariants.{Get, Undo, Full}
use Rattle.routes.specs.declared.update.recycle.Recycle.TheVariants.{Head}
use Rattle.routes.specs.declared.update.Phase.TheVariants.{Build as InBuild, Obtain as InObtain, Recycle as InRecycle}
use Rattle.routes.specs.Memory.{Mem}
use Rattle.routes.specs.Machine.Acts.{PhaseReady, MovedOwn}
use Rattle.routes.specs.Machine.Jobs.{having}
use Rattle.routes.specs.Machine.Nexts.{UpdateNext}
use Rattle.std.specs.declared.ops.ControlFlow.TheVariants.{Continue, Break}

-- block number i of those got
abbrev pub fresh_in : List ℕ → ℕ → ℕ
fresh_in o i = child_of (words_of o (fresh_at i))

-- with one block more: on to the next, or to build if all are there
abbrev pub gathering : Job → UpdateNext
gathering j = cond (nat_lt j.got j.need) (Continue (j, InObtain Get)) (Continue (j, InBuild Root))

-- what was got goes back
abbrev pub undoing : Job → UpdateNext
undoing j = cond (nat_lt 0 j.got) (Continue (j, InObtain Undo)) (Continue (j, InObtain Full))

abbrev pub ObtainOk : Job → Obtain → Type 0
ObtainOk j Get = (j.got < j.need) × (j.need ≤ 72)
ObtainOk j Undo = (0 < j.got) × (j.got ≤ 72)
ObtainOk j Full = Unit {0}

abbrev pub obtain_act : ℕ → Job → Obtain → List ℕ → Act
obtain_act p j Get o = Ask
obtain_act p j Undo o = Release (fresh_in o (j.got - 1))
obtain_act p j Full o = Swap 0 0 (p + 1) 0

-- after it was asked for a block
abbrev pub after_get : Job → ℕ → UpdateNext
after_get j zero = Continue (j, InRecycle Head)
after_get j (suc b) = gathering (having (j.got + 1) j)

abbrev pub words_after_get : Job → List ℕ → ℕ → List ℕ
words_after_get j o zero = o
words_after_get j o (suc b) = slice_set o (fresh_at j.got) b

abbrev pub obtain_after : Job → Obtain → ℕ → UpdateNext
obtain_after j Get x = after_get j x
obtain_after j Undo x = undoing (having (j.got - 1) j)
obtain_after j Full x = Break FullAnswer

abbrev pub obtain_words : Job → Obtain → List ℕ → ℕ → List ℕ
obtain_words j Get o x = words_after_get j o x
obtain_words j Undo o x = o
obtain_words j Full o x = o

abbrev pub ObtainReady : Mem → ℕ → Job → Obtain → List ℕ → Type 0
ObtainReady m p j s o = PhaseReady m p (obtain_act p j s o) (ObtainOk j s) o

abbrev pub ObtainMoved : ℕ → Job → Obtain → Mem → List ℕ → UpdateNext → Mem → List ℕ → Type 0
ObtainMoved p j s m o r n u = MovedOwn p (obtain_act p j s o) (obtain_after j s) (obtain_words j s o) m r n u
