use Rattle.std.proofs.Common.{◌-◌, length}
use Rattle.moves.proofs.schedule.MoveListSchedule.next.Given as goal

abbrev pub decreases-loop-next : goal.decreases-loop-next
decreases-loop-next l = length l.self.words.now - l.self.at
