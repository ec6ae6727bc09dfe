use Rattle.std.proofs.Common.{◌≡◌, ℕ, ◌+◌, ◌*◌, ◌<◌, get_or}
use Rattle.moves.specs.Moves.{piece_at, blank}
use Rattle.moves.proofs.list.read_pieces.Given as goal

-- the first k pieces stand in the row
abbrev pub invariant-loop-k : goal.invariant-loop-k
invariant-loop-k l = (j : ℕ) → j < l.k → get_or l.row j blank ≡ piece_at l.words (l.at + 2 * j)
