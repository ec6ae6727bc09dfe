use Rattle.std.proofs.Common.{◌∙◌}
use Rattle.memory.proofs.Memories.{told_any}
use Rattle.memory.proofs.shared.SharedMemory.arrive.Goals as goal

pub returns : goal.returns
returns c = record { arrives = c.arrive_oldest.ensures.arrives; told = c.is_some.ensures ∙ told_any _ _ c.arrive_oldest.ensures.told; same = c.arrive_oldest.ensures.same }
