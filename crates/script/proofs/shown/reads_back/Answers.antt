use Rattle.script.proofs.Back.Commands.{reads_back_lem, reads_back_among}
use Rattle.script.proofs.shown.reads_back.Goals as goal

pub returns : goal.returns
returns c = record { all = reads_back_lem; among = reads_back_among }
