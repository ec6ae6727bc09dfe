use Rattle.routes.proofs.laws.repr.walks_follow.Goals as goal
use Rattle.routes.proofs.Repr.Trails.{follow_walk}

pub returns : goal.returns
returns c = follow_walk
