use Rattle.std.proofs.Common.{◌≡◌, ◌+◌, ◌≤◌, length, drop}
use Rattle.arrayvec.specs.ArrayVec.{array_vec_len}
use Rattle.routes.specs.Routes.{Table, pieces}
use Rattle.plain.specs.Tables.{draft_routes}
use Rattle.plain.proofs.draft.Draft.apply_all.Given as goal

-- the pieces still to come, after those applied, make what all of them make; and there is room for them
abbrev pub invariant-loop-piece : goal.invariant-loop-piece
invariant-loop-piece l =
    (pieces (drop l.piece-index l.pieces) (Table (draft_routes l.self)) ≡ pieces l.pieces (Table (draft_routes l.initial.self)))
    × (array_vec_len l.self.entries + length l.pieces ≤ 2056 + l.piece-index)
