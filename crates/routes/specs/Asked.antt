-- What the world may do at a turn. Fixed, as Memory and Routes are.
-- Assumes nothing.
use Rattle.std.specs.Prelude.{◌≡◌, ℕ, ◌<◌, cond, not, T, List, [], ◌∷◌, ◌++◌, take, nat_le}
use Rattle.routes.specs.declared.Ask.{Ask}
use Rattle.routes.specs.declared.Ask.TheVariants.{Find, Change}
use Rattle.routes.specs.declared.Piece.{Piece}
use Rattle.routes.specs.declared.Turn.{Turn}
use Rattle.routes.specs.declared.Turn.TheVariants.{Begin, Go, Over}
use Rattle.routes.specs.Memory.{Mem}
use Rattle.routes.specs.Routes.{Event, Asked, under}

-- the pieces of a change are the first of the lent row; more than 8 asked for stays more than 8, so that it's turned away
unfoldable pub pieces_of : Ask → List Piece → List Piece
pieces_of (Find a) ps = []
pieces_of (Change n) ps = cond (nat_le n 8) (take n ps) (ps ++ ps)

-- which processor is next, and whether something begins there; or all is over
unfoldable pub Next : Turn → ℕ → List Piece → Mem → List Event → List Event → Type 0
Next (Begin k) p ps m es fs = (p < m.cpus) × T (not (under p es)) × (fs ≡ Asked p k (pieces_of k ps) ∷ es)
Next Go p ps m es fs = (p < m.cpus) × T (under p es) × (fs ≡ es)
Next Over p ps m es fs = fs ≡ es
