use Rattle.routes.proofs.Machine.Pieces.{NotedSoFar}
use Rattle.routes.proofs.work.note_pieces.Given as goal

abbrev pub invariant-loop-k : goal.invariant-loop-k
invariant-loop-k l = NotedSoFar l.pieces l.initial.own l.k-iterator.a.start l.k-iterator.b.rest.now l.own
