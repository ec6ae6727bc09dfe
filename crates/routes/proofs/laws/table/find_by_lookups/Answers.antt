use Rattle.routes.proofs.laws.table.find_by_lookups.Goals as goal
use Rattle.routes.proofs.Table.Seek.{find-lookups}

pub returns : goal.returns
returns c = find-lookups
