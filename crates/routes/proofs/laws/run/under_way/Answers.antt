use Rattle.routes.proofs.laws.run.under_way.Goals as goal
use Rattle.routes.proofs.Run.Laws.{under_way_lem}

pub returns : goal.returns
returns c = under_way_lem
