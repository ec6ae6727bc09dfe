use Rattle.std.proofs.Common.{◌≡◌}
use Rattle.routes.specs.Memory.{Arrives}
use Rattle.memory.specs.Memories.{mem_of}
use Rattle.world.specs.Journals.{seen_of}
use Rattle.world.proofs.world.ScheduledWorld.next_turn.Given as goal

-- stores arrive, and nothing is seen
abbrev pub invariant-loop : goal.invariant-loop
invariant-loop g l =
    Arrives (mem_of l.initial.self.memory.now) (mem_of l.self.memory.now) ×
    (seen_of l.self.journal.now ≡ seen_of l.initial.self.journal.now)
