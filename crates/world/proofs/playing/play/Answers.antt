use Rattle.std.proofs.Common.{refl}
use Rattle.world.proofs.Marks.{marks_none}
use Rattle.world.proofs.playing.play.Goals as goal

pub invariant_of-world : goal.invariant_of-world
invariant_of-world g c = record { sixteen = refl; marks = marks_none _ c.requires.starts.1 }
