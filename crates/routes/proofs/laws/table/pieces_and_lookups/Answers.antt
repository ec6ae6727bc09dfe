use Rattle.routes.proofs.laws.table.pieces_and_lookups.Goals as goal
use Rattle.routes.proofs.Table.Lengths.{piece-length}
use Rattle.routes.proofs.Table.Lookups.{piece-lookup}
use Rattle.routes.proofs.Table.Takes.{takes_decided}

pub returns : goal.returns
returns c = record { lookups = piece-lookup; lengths = piece-length; takes = takes_decided }
