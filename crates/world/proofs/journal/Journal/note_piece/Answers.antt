use Rattle.std.proofs.Common.{◌≡◌, ◌∷◌, ap, ◌∙◌, arith}
use Rattle.world.specs.Journals.{notes_of}
use Rattle.world.specs.Notes.{first_word, second_word, read_pieces, skip_pieces}
use Rattle.world.proofs.Journals.{piece_read, piece_skipped}
use Rattle.world.proofs.journal.Journal.note_piece.Goals as goal

pub returns : goal.returns
returns c =
    let e : notes_of c.note-2.new.self ≡ first_word c.args.piece ∷ second_word c.args.piece ∷ notes_of c.args.self.now = cc in
    record {
      read = λ n. ap (read_pieces _) e ∙ piece_read _ _ (notes_of c.args.self.now) c.args.piece c.second_word.ensures.back n;
      skipped = λ n. ap (skip_pieces _) e ∙ piece_skipped _ _ n _;
      kinds = cc;
      room = (omega arith, cc);
    }
