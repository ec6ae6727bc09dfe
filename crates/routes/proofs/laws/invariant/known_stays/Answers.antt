use Rattle.routes.proofs.laws.invariant.known_stays.Goals as goal
use Rattle.routes.proofs.Invariant.Mains.{known_next, known_begin}

pub returns : goal.returns
returns c = record { arrives = known_next; begins = known_begin }
