use Rattle.std.proofs.Common.{◌≤◌, length}
use Rattle.hall.proofs.source.play_whole.Given as goal

abbrev pub invariant-loop-len : goal.invariant-loop-len
invariant-loop-len g l = length l.rest ≤ length l.text

abbrev pub decreases-loop-len : goal.decreases-loop-len
decreases-loop-len g l = length l.rest
