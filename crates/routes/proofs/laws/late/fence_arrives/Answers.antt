use Rattle.routes.proofs.laws.late.fence_arrives.Goals as goal
use Rattle.routes.proofs.Late.Laws.{fence_is_arriving}

pub returns : goal.returns
returns c = fence_is_arriving
