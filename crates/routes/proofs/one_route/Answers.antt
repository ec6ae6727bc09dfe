use Rattle.routes.proofs.one_route.Goals as goal
use Rattle.routes.proofs.Table.Fits.{only_what_fits}
use Rattle.routes.proofs.Table.Unique.{one_route_lem}

pub returns : goal.returns
returns c = (one_route_lem, only_what_fits)
