use Rattle.routes.proofs.laws.late.arrives_unseen.Goals as goal
use Rattle.routes.proofs.Late.Laws.{arrives_unseen_lem}

pub returns : goal.returns
returns c = arrives_unseen_lem
