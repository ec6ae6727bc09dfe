use Rattle.routes.proofs.laws.invariant.known_allows.Goals as goal
use Rattle.routes.proofs.Invariant.Mains.{known_ready}

pub returns : goal.returns
returns c = known_ready
