use Rattle.routes.proofs.laws.tree.edits_of_trees.Goals as goal
use Rattle.routes.proofs.Tree.Edits.{look-edit, count-edit}
use Rattle.routes.proofs.Tree.Good.{good_piece}

pub returns : goal.returns
returns c = record { looks = look-edit; counts = count-edit; pieces = good_piece }
