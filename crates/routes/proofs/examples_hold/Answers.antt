use Rattle.routes.proofs.examples_hold.Goals as goal
use Rattle.routes.proofs.Table.Examples.{examples_hold_lem}

pub returns : goal.returns
returns c = examples_hold_lem
