use Rattle.std.proofs.Common.{refl}
use Rattle.routes.specs.Memory.{rest}
use Rattle.memory.proofs.access.SharedMemoryMemory.load.Goals as goal

pub returns : goal.returns
returns c = (c.seen_by.ensures, (rest _, refl))
