use Rattle.std.proofs.Common.{sym, refl}
use Rattle.memory.proofs.Arrivals.{arrives_same}
use Rattle.memory.proofs.access.SharedMemoryMemory.fence.Goals as goal

pub returns : goal.returns
returns c = (arrives_same (sym c.arrive_all.ensures), refl)
