use Rattle.world.specs.Journals.{kinds_of, notes_of}
use Rattle.world.proofs.Journals.{told_seen}
use Rattle.world.proofs.journal.Journal.told.Goals as goal

pub returns : goal.returns
returns c =
    let e = told_seen c.args.p c.told_word.result (kinds_of c.args.self.now) (notes_of c.args.self.now) c.if-p-ge16.false in
    let h = c.if-not-has_room.ensures in
    let b = c.told_word.ensures.back in
    record { seen = λ t. (c.if-p-ge16.false, cc); unseen = λ f. cc }
