use Rattle.std.proofs.Common.{◌≡◌, ◌+◌, ◌-◌, ◌*◌, ◌≤◌, ◌++◌, length}
use Rattle.std.specs.Slice.Iter.{iter_rest}
use Rattle.world.specs.Notes.{read_pieces, skip_pieces}
use Rattle.world.specs.Journals.{kinds_of, notes_of, room_of, event_room_of}
use Rattle.world.proofs.journal.Journal.note_pieces.Given as goal

-- the pieces behind those that are left stand on top of what was noted before
abbrev pub invariant-loop-piece : goal.invariant-loop-piece
invariant-loop-piece l =
    record {
      left : length (iter_rest l.piece-iterator.iter) ≤ length l.pieces;
      read : iter_rest l.piece-iterator.iter ++ read_pieces (length l.pieces - length (iter_rest l.piece-iterator.iter)) (notes_of l.self) ≡ l.pieces;
      skipped : skip_pieces (length l.pieces - length (iter_rest l.piece-iterator.iter)) (notes_of l.self) ≡ notes_of l.initial.self;
      kinds : kinds_of l.self ≡ kinds_of l.initial.self;
      room : room_of l.self + 2 * (length l.pieces - length (iter_rest l.piece-iterator.iter)) ≡ room_of l.initial.self;
      events : event_room_of l.self ≡ event_room_of l.initial.self;
    }
