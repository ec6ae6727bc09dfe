use Rattle.words.proofs.Packing.{unpacks}
use Rattle.words.proofs.slot.unpacks_what_it_packs.Goals as goal

pub returns : goal.returns
returns c = unpacks
