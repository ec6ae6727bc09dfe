use Rattle.std.proofs.Common.{◌≡◌, length, take, arith, rules}
use Rattle.std.proofs.lemmas.Bool.Decides.{nat_tests}
use Rattle.world.specs.Journals.{kinds_of, notes_of, kept}
use Rattle.world.proofs.Journals.{change_seen, spread-pieces}
use Rattle.world.proofs.journal.Journal.asked_change.Goals as goal

pub returns : goal.returns
returns c =
    let e = change_seen c.args.p c.args.size (kinds_of c.args.self.now) (notes_of c.note_pieces.new.self) c.requires in
    let s = spread-pieces c.args.size c.args.pieces.now (search rules) in
    let h = c.if-not-has_room.ensures in
    let long : length (take c.min-count.result c.args.pieces.now) ≡ c.min-count.result = search rules in
    let m : c.min-count.result ≡ kept c.args.size = grind (arith, nat_tests) in
    record { seen = λ t. cc; unseen = λ f. cc }
