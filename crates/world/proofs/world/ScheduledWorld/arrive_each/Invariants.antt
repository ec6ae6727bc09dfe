use Rattle.std.proofs.Common.{◌≡◌, length}
use Rattle.routes.specs.Memory.{fenced}
use Rattle.memory.specs.Memories.{mem_of}
use Rattle.world.specs.Journals.{seen_of}
use Rattle.world.proofs.world.ScheduledWorld.arrive_each.Given as goal

-- a fence is still to come, and nothing is seen
abbrev pub invariant-loop : goal.invariant-loop
invariant-loop g l =
    (fenced l.p (mem_of l.self.memory.now) ≡ fenced l.p (mem_of l.initial.self.memory.now)) ×
    (seen_of l.self.journal.now ≡ seen_of l.initial.self.journal.now)

abbrev pub decreases-loop : goal.decreases-loop
decreases-loop g l = length ((mem_of l.self.memory.now).late l.p)
