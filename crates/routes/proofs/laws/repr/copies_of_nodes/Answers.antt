use Rattle.routes.proofs.laws.repr.copies_of_nodes.Goals as goal
use Rattle.routes.proofs.Repr.Edits.{images_edit}
use Rattle.routes.proofs.Repr.Nodes.{node_read}
use Rattle.routes.proofs.Repr.Written.{written}

pub returns : goal.returns
returns c = record { read = node_read; edited = images_edit; written = written }
