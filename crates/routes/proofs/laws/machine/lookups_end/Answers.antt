use Rattle.routes.proofs.laws.machine.lookups_end.Goals as goal
use Rattle.routes.proofs.Machine.Turns.{lookups_end_lem}

pub returns : goal.returns
returns c = lookups_end_lem
