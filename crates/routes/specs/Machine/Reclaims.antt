-- Reclaim: retired nodes that nobody can be reading go back to the pool, the oldest first.
-- Assumes nothing.
use Rattle.std.specs.Prelude.{ℕ, ◌-◌, cond, ◌==◌, nat_lt}
use Rattle.words.specs.Slots.{child_of}
use Rattle.routes.specs.declared.act.Act.{Act}
use Rattle.routes.specs.declared.act.Act.TheVariants.{Load, Store, Release as Give}
use Rattle.routes.specs.declared.update.job.Job.{Job}
use Rattle.routes.specs.declared.update.scan.GracePeriod.{GracePeriod}
use Rattle.routes.specs.declared.update.reclaim.Reclaim.{Reclaim}
use Rattle.routes.specs.declared.update.reclaim.Reclaim.TheVariants.{Head, RetiredAt, Next, SetHead, SetTail, Release}
use Rattle.routes.specs.declared.update.Phase.{Phase}
use Rattle.routes.specs.declared.update.Phase.TheVariants.{Reclaim as InReclaim}
use Rattle.routes.specs.Memory.{Mem}
use Rattle.routes.specs.Machine.Acts.{Moved}
use Rattle.routes.specs.Machine.Finishes.{finishing}

-- the oldest retired node, if there is one
abbrev pub oldest : Job → GracePeriod → ℕ → ℕ → Phase
oldest j g left b = cond (b == 0) (finishing j) (InReclaim (RetiredAt g left b))

-- it was retired in this epoch
abbrev pub stamped : Job → GracePeriod → ℕ → ℕ → ℕ → Phase
stamped j g left b stamp = cond (nat_lt stamp g.before) (InReclaim (Next g left b)) (finishing j)

-- one of those left has gone
abbrev pub released : Job → GracePeriod → ℕ → Phase
released j g left = cond (nat_lt 1 left) (InReclaim (Head g (left - 1))) (finishing j)

-- its head is what followed the node
abbrev pub unlinked : GracePeriod → ℕ → ℕ → ℕ → Phase
unlinked g left b next = cond (next == 0) (InReclaim (SetTail g left b)) (InReclaim (Release g left b))

abbrev pub reclaim_act : Reclaim → Act
reclaim_act (Head g left) = Load 0 3
reclaim_act (RetiredAt g left b) = Load b 31
reclaim_act (Next g left b) = Load b 32
reclaim_act (SetHead g left b next) = Store 0 3 next
reclaim_act (SetTail g left b) = Store 0 4 0
reclaim_act (Release g left b) = Give b

abbrev pub reclaim_after : Job → Reclaim → ℕ → Phase
reclaim_after j (Head g left) x = oldest j g left (child_of x)
reclaim_after j (RetiredAt g left b) x = stamped j g left b x
reclaim_after j (Next g left b) x = InReclaim (SetHead g left b (child_of x))
reclaim_after j (SetHead g left b next) x = unlinked g left b next
reclaim_after j (SetTail g left b) x = InReclaim (Release g left b)
reclaim_after j (Release g left b) x = released j g left

abbrev pub ReclaimMoved : ℕ → Job → Reclaim → Mem → Phase → Mem → Type 0
ReclaimMoved p j s m r n = Moved p (reclaim_act s) (reclaim_after j s) m r n
