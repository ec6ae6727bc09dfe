use Rattle.routes.proofs.laws.late.own_stores.Goals as goal
use Rattle.routes.proofs.Late.Laws.{none_late, own_stores_lem}

pub returns : goal.returns
returns c = record { none = none_late; own = own_stores_lem }
