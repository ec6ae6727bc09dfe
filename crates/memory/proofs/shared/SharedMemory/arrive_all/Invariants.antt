use Rattle.std.proofs.Common.{◌≡◌, length}
use Rattle.routes.specs.Memory.{fenced}
use Rattle.memory.specs.Memories.{mem_of}
use Rattle.memory.proofs.shared.SharedMemory.arrive_all.Given as goal

abbrev pub invariant-loop : goal.invariant-loop
invariant-loop l = fenced l.p (mem_of l.self) ≡ fenced l.p (mem_of l.initial.self)

abbrev pub decreases-loop : goal.decreases-loop
decreases-loop l = length ((mem_of l.self).late l.p)
