use Rattle.routes.proofs.finds_longest.Goals as goal
use Rattle.routes.proofs.Table.Longest.{finds_longest_lem}

pub returns : goal.returns
returns c = finds_longest_lem
