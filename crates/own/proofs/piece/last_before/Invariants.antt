use Rattle.std.proofs.Common.{◌≡◌}
use Rattle.own.specs.Layout.{words_of}
use Rattle.own.specs.Pieces.{earlier_of}
use Rattle.own.proofs.piece.last_before.Given as goal

abbrev pub invariant-loop-j : goal.invariant-loop-j
invariant-loop-j l = l.seen ≡ earlier_of (words_of l.own) l.piece l.j
