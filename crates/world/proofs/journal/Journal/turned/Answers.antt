use Rattle.world.specs.Journals.{kinds_of, notes_of}
use Rattle.world.proofs.Journals.{turned_seen}
use Rattle.world.proofs.journal.Journal.turned.Goals as goal

pub returns : goal.returns
returns c =
    let e = turned_seen c.args.p (kinds_of c.args.self.now) (notes_of c.args.self.now) c.if-p-ge16.false in
    let h = c.if-not-has_room.ensures in
    record { seen = λ t. cc; unseen = λ f. cc }
