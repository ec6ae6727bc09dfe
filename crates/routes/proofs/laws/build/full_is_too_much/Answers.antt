use Rattle.routes.proofs.laws.build.full_is_too_much.Goals as goal
use Rattle.routes.proofs.Build.Full.{full_much}

pub returns : goal.returns
returns c = full_much
