use Rattle.own.proofs.Written.{reads}
use Rattle.own.proofs.piece.reads_what_it_wrote.Goals as goal

pub returns : goal.returns
returns c = reads
