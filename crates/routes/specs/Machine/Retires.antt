-- Retire: the epoch is raised, and the nodes that were replaced go behind the tail of limbo.
-- Assumes nothing.
use Rattle.std.specs.Prelude.{ℕ, ◌+◌, ◌-◌, ◌^◌, ◌<◌, ◌≤◌, cond, List, ◌==◌, nat_lt}
use Rattle.words.specs.Slots.{child_of}
use Rattle.own.specs.Layout.{words_of, retired_at}
use Rattle.routes.specs.declared.act.Act.{Act}
use Rattle.routes.specs.declared.act.Act.TheVariants.{Load, Store, Fence as Settle}
use Rattle.routes.specs.declared.update.job.Job.{Job}
use Rattle.routes.specs.declared.update.retire.Retire.{Retire}
use Rattle.routes.specs.declared.update.retire.Retire.TheVariants.{Epoch, SetEpoch, SetAt, SetNext, Tail, SetHead, Link, SetTail, Fence}
use Rattle.routes.specs.declared.update.scan.Scan.TheVariants.{ForLimit}
use Rattle.routes.specs.declared.update.Phase.{Phase}
use Rattle.routes.specs.declared.update.Phase.TheVariants.{Retire as InRetire, Scan as InScan}
use Rattle.routes.specs.Memory.{Mem}
use Rattle.routes.specs.Machine.Acts.{PhaseReady, Moved}

-- block number i of those replaced
abbrev pub retired_in : List ℕ → ℕ → ℕ
retired_in o i = child_of (words_of o (retired_at i))

-- the one after it, or 0
abbrev pub follower_in : Job → ℕ → List ℕ → ℕ
follower_in j i o = cond (nat_lt (i + 1) j.retired) (retired_in o (i + 1)) 0

-- the epoch is raised
abbrev pub after_epoch : Job → ℕ → Phase
after_epoch j e = cond (nat_lt 0 j.retired) (InRetire (SetAt 0 e)) (InRetire Fence)

-- node i has its epoch and its link
abbrev pub after_next : Job → ℕ → ℕ → Phase
after_next j i e = cond (nat_lt (i + 1) j.retired) (InRetire (SetAt (i + 1) e)) (InRetire Tail)

-- behind the tail of limbo, or at its head if it has none
abbrev pub after_tail : ℕ → Phase
after_tail t = cond (t == 0) (InRetire SetHead) (InRetire (Link t))

abbrev pub RetireOk : Job → Retire → Type 0
RetireOk j Epoch = Unit {0}
RetireOk j (SetEpoch e) = e + 1 < 2 ^ 64
RetireOk j (SetAt i e) = i < 72
RetireOk j (SetNext i e) = i < 72
RetireOk j Tail = Unit {0}
RetireOk j SetHead = Unit {0}
RetireOk j (Link t) = Unit {0}
RetireOk j SetTail = (0 < j.retired) × (j.retired ≤ 72)
RetireOk j Fence = Unit {0}

abbrev pub retire_act : Job → Retire → List ℕ → Act
retire_act j Epoch o = Load 0 2
retire_act j (SetEpoch e) o = Store 0 2 (e + 1)
retire_act j (SetAt i e) o = Store (retired_in o i) 31 e
retire_act j (SetNext i e) o = Store (retired_in o i) 32 (follower_in j i o)
retire_act j Tail o = Load 0 4
retire_act j SetHead o = Store 0 3 (retired_in o 0)
retire_act j (Link t) o = Store t 32 (retired_in o 0)
retire_act j SetTail o = Store 0 4 (retired_in o (j.retired - 1))
retire_act j Fence o = Settle

abbrev pub retire_after : Job → Retire → ℕ → Phase
retire_after j Epoch x = InRetire (SetEpoch x)
retire_after j (SetEpoch e) x = after_epoch j e
retire_after j (SetAt i e) x = InRetire (SetNext i e)
retire_after j (SetNext i e) x = after_next j i e
retire_after j Tail x = after_tail (child_of x)
retire_after j SetHead x = InRetire SetTail
retire_after j (Link t) x = InRetire SetTail
retire_after j SetTail x = InRetire Fence
retire_after j Fence x = InScan (ForLimit 0 18446744073709551615)

abbrev pub RetireReady : Mem → ℕ → Job → Retire → List ℕ → Type 0
RetireReady m p j s o = PhaseReady m p (retire_act j s o) (RetireOk j s) o

abbrev pub RetireMoved : ℕ → Job → Retire → Mem → List ℕ → Phase → Mem → Type 0
RetireMoved p j s m o r n = Moved p (retire_act j s o) (retire_after j s) m r n
