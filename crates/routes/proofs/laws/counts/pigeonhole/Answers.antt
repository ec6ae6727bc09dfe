use Rattle.routes.proofs.laws.counts.pigeonhole.Goals as goal
use Rattle.routes.proofs.Counts.Lists.{pigeonhole}

pub returns : goal.returns
returns c = pigeonhole
