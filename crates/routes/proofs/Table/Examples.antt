-- The worked examples compute.
use Rattle.std.proofs.Common.{refl}
use Rattle.routes.specs.Routes.{longest, without, has, piece, pieces, answer_of, table_of}
use Rattle.routes.specs.Examples.{ExamplesHold, AllHold, table_after, tells}

-- Each row is what the definitions give.
pub examples_hold_lem : ExamplesHold
unfolding AllHold table_after tells longest without has piece pieces answer_of table_of
examples_hold_lem anything = (refl, (refl, (refl, (refl, (refl, (refl, (refl, (refl, (refl, (refl, tt))))))))))
