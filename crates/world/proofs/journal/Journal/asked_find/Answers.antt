use Rattle.world.specs.Journals.{kinds_of, notes_of}
use Rattle.world.proofs.Journals.{find_seen}
use Rattle.world.proofs.journal.Journal.asked_find.Goals as goal

pub returns : goal.returns
returns c =
    let e = find_seen c.args.p c.args.address (kinds_of c.args.self.now) (notes_of c.args.self.now) c.requires in
    let h = c.if-not-has_room.ensures in
    record { seen = λ t. cc; unseen = λ f. cc }
