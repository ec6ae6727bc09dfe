use Rattle.std.proofs.Common.{◌≡◌, ℕ, ◌-◌, ◌<◌, get_or}
use Rattle.routes.specs.declared.work.Work.TheVariants.{Idle}
use Rattle.routes.specs.Invariant.Known.{Between, idle_cpu}
use Rattle.routes.proofs.turns.Given as goal

-- the first registers are idle
abbrev pub invariant-loop-i : goal.invariant-loop-i
invariant-loop-i g l = (k : ℕ) → k < l.i → (get_or l.cpus k idle_cpu).work ≡ Idle

-- the invariant
abbrev pub invariant-loop-t : goal.invariant-loop-t
invariant-loop-t g l = Between (g.W.Memory.mem l.w) (g.W.Memory.seen l.w) l.t l.cpus l.own l.pieces

abbrev pub decreases-loop-t : goal.decreases-loop-t
decreases-loop-t g l = l.many - l.t
