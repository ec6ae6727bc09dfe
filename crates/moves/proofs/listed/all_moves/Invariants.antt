use Rattle.std.proofs.Common.{◌-◌, ◌≤◌, length}
use Rattle.moves.specs.Moves.{AllMoves}
use Rattle.moves.proofs.listed.all_moves.Given as goal

-- words are moves just if they are from here on
abbrev pub invariant-loop-listed : goal.invariant-loop-listed
invariant-loop-listed l =
    record {
      inside : l.at ≤ length l.words;
      before : AllMoves l.cpus l.words l.at → AllMoves l.cpus l.words 0;
      behind : AllMoves l.cpus l.words 0 → AllMoves l.cpus l.words l.at;
    }

abbrev pub decreases-loop-listed : goal.decreases-loop-listed
decreases-loop-listed l = length l.words - l.at
