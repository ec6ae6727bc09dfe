use Rattle.routes.proofs.laws.tree.few_nodes.Goals as goal
use Rattle.routes.proofs.Tree.Nodes.{nodes_few}

pub returns : goal.returns
returns c = nodes_few
