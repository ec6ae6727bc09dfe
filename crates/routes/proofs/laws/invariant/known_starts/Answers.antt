use Rattle.routes.proofs.laws.invariant.known_starts.Goals as goal
use Rattle.routes.proofs.Invariant.Mains.{known_start}

pub returns : goal.returns
returns c = known_start
