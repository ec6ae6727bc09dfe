use Rattle.routes.proofs.laws.invariant.known_steps.Goals as goal
use Rattle.routes.proofs.Invariant.Mains.{known_step}

pub returns : goal.returns
returns c = known_step
