use Rattle.std.proofs.Common.{◌≤◌, length}
use Rattle.hall.proofs.source.play_lines.Given as goal

abbrev pub invariant-loop : goal.invariant-loop
invariant-loop g l = l.held ≤ length l.room
