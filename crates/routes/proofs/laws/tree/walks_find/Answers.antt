use Rattle.routes.proofs.laws.tree.walks_find.Goals as goal
use Rattle.routes.proofs.Tree.Good.{walk-find}

pub returns : goal.returns
returns c = walk-find
