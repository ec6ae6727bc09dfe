use Rattle.routes.proofs.oldest_first.Goals as goal
use Rattle.routes.proofs.Late.Oldest.{oldest_first_lem}

pub returns : goal.returns
returns c = oldest_first_lem
