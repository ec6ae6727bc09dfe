use Rattle.routes.proofs.laws.build.earlier_pieces_decide.Goals as goal
use Rattle.routes.proofs.Build.Checks.{earlier_decide}

pub returns : goal.returns
returns c = earlier_decide
