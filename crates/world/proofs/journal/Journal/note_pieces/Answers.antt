use Rattle.std.proofs.Common.{◌≡◌, suc, ◌+◌, ◌-◌, ◌∷◌, [], ◌++◌, length, sym, refl, ap, ◌∙◌, append_assoc, append-nil, length-append, arith}
use Rattle.std.specs.Slice.Iter.{iter_rest}
use Rattle.world.specs.Notes.{read_pieces}
use Rattle.world.specs.Journals.{notes_of}
use Rattle.world.proofs.Journals.{read_none, skip_none}
use Rattle.world.proofs.journal.Journal.note_pieces.Goals as goal

pub loop-piece-init : goal.loop-piece-init
loop-piece-init c =
    let start : iter_rest c.into_iter-piece-iterator.result.iter ≡ c.args.pieces.now = ap (λ s. iter_rest s.iter) c.into_iter-piece-iterator.ensures.into_iter_gives ∙ (ap iter_rest c.rev-piece-items.ensures.source ∙ c.iter.ensures.rest) in
    rw start (record { left = omega arith; read = ap (λ ps. c.args.pieces.now ++ ps) (read_none (length c.args.pieces.now) _) ∙ append-nil _; skipped = skip_none (length c.args.pieces.now) _; kinds = refl; room = omega arith; events = refl })

pub loop-piece-preserved : goal.loop-piece-preserved
loop-piece-preserved c =
    let i = c.loop-piece.invariant in
    let rest = iter_rest c.next.new.self.iter in
    let before = iter_rest c.loop-piece.piece-iterator.iter in
    let n = length c.args.pieces.now in
    let step = c.in-Some.ensures.steps in
    let long : length before ≡ length rest + 1 = ap length step ∙ length-append rest (c.in-Some.piece.now ∷ []) in
    let m : n - length rest ≡ suc (n - length before) = omega (arith, long, i.left) in
    let behind = read_pieces (n - length before) (notes_of c.loop-piece.self) in
    rw m (record {
      left = omega (arith, long, i.left);
      read = ap (λ ps. rest ++ ps) (c.note_piece.ensures.read _) ∙ (sym (append_assoc rest (c.in-Some.piece.now ∷ []) behind) ∙ (ap (λ ps. ps ++ behind) (sym step) ∙ i.read));
      skipped = c.note_piece.ensures.skipped _ ∙ i.skipped;
      kinds = c.note_piece.ensures.kinds ∙ i.kinds;
      room = omega (arith, c.note_piece.ensures.room.0, i.room);
      events = c.note_piece.ensures.room.1 ∙ i.events;
    })
