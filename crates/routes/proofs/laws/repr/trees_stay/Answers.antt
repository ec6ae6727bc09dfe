use Rattle.routes.proofs.laws.repr.trees_stay.Goals as goal
use Rattle.routes.proofs.Repr.Nodes.{repr_stays}

pub returns : goal.returns
returns c = repr_stays
