-- Build: the images on the way of a piece are edited.
use Rattle.std.proofs.Common.{◌≡◌, ℕ, suc, ◌+◌, ◌/◌, ◌%◌, ◌^◌, ◌<◌, ◌≤◌, List, [], ◌∷◌, length, get_or, drop, sym, refl, ap, ◌∙◌, subst, inl, inr, add-zero, arith}
use Rattle.words.proofs.Addresses.{place_small}
use Rattle.words.proofs.Packing.{child_same}
use Rattle.own.specs.declared.piece.PieceWords.{PieceWords}
use Rattle.own.specs.Layout.{words_of, fresh_at}
use Rattle.own.specs.Edits.{edited, levels_edited, deep_of, bits_of}
use Rattle.own.specs.Functions.{blanked_in}
use Rattle.own.proofs.Edited.{words_edited, levels_edited_lem, edited_outside}
use Rattle.routes.specs.declared.Piece.{Piece}
use Rattle.routes.specs.declared.update.job.Job.{Job}
use Rattle.routes.specs.declared.update.build.Build.TheVariants.{Edit, Write as ToWrite}
use Rattle.routes.specs.Routes.{Route, Now}
use Rattle.routes.specs.Machine.Begins.{blank, stored}
use Rattle.routes.specs.Machine.Builds.{build_after}
use Rattle.routes.specs.Machine.Checks.{piece_in}
use Rattle.routes.specs.Machine.Jobs.{rebuilt}
use Rattle.routes.specs.Machine.Obtains.{fresh_in}
use Rattle.routes.specs.Build.Reads.{Have, edited as edited_words}
use Rattle.routes.specs.Build.Stages.{wants, words_edit, piece_edit, tree_after}
use Rattle.routes.specs.Build.Writes.{Write}
use Rattle.routes.specs.Keys.Keys.{nibs, way_of}
use Rattle.routes.specs.Repr.Images.{Own, levels_left}
use Rattle.routes.specs.Tree.Edits.{RouteEdit, edit, edit_of}
use Rattle.routes.specs.Tree.Trees.{Tree, depth, there}
use Rattle.routes.specs.Invariant.Building.{Equipped, Staged, BuildFacts}
use Rattle.routes.specs.Invariant.Ghosts.{Ghost, calm}
use Rattle.routes.specs.Invariant.Writers.{Hall, PhaseFacts}
use Rattle.routes.proofs.Build.Loops.{edit-piece, levels_piece, words_edit_lem}
use Rattle.routes.proofs.Build.Stages.{stage_edit}
use Rattle.routes.proofs.Build.Turns.{levels_after}
use Rattle.routes.proofs.Counts.Segments.{seg_in}
use Rattle.routes.proofs.Invariant.GoingOn.{GoesOn, on_build}
use Rattle.routes.proofs.Invariant.OwnStays.{SameBut, equipped_stays}
use Rattle.routes.proofs.Invariant.Staging.{staged_piece, staged_clean, staged_words}
use Rattle.routes.proofs.Invariant.Needs.{need_few}

-- An edited way has a node.
edit_some : (c : RouteEdit) (d : ℕ) (ns : List ℕ) (t : Tree) → 0 < depth ns (edit c d ns t)
unfolding edit depth there
edit_some c d [] t = omega arith
edit_some c d (m ∷ ns) t = omega arith

-- The words of a piece and the piece make the same edit of own words, and leave the same levels.
module _ (w : PieceWords) (p : Piece) (is : w ≡ stored p) (hb : p.bits < 2 ^ 32) (ht : p.tells < 2 ^ 32) (have : ℕ) (own : Own) (fresh : ℕ → ℕ) where
  -- Its bits are 32.
  whole_bits : p.bits % 2 ^ 32 ≡ p.bits
  whole_bits = omega arith

  -- The edit is the same.
  same_edit : words_edit (stored p) fresh ≡ edit_of p fresh
  same_edit = words_edit_lem (stored p) p fresh refl refl refl refl hb ht

  -- So are the own words after it.
  edited_same : edited_words (words_edit w fresh) (nibs 0 (deep_of w) (bits_of w)) have (deep_of w) own ≡ edited_words (edit_of p fresh) (way_of p.len p.bits) have (p.len / 4) own
  edited_same =
      ap (λ z. edited_words (words_edit z fresh) (nibs 0 (deep_of z) (bits_of z)) have (deep_of z) own) is
      ∙ ap (λ z. edited_words z (nibs 0 (p.len / 4) (p.bits % 2 ^ 32)) have (p.len / 4) own) same_edit
      ∙ ap (λ z. edited_words (edit_of p fresh) (nibs 0 (p.len / 4) z) have (p.len / 4) own) whole_bits

  -- And the levels that it leaves.
  levels_same : levels_left (words_edit w fresh) 0 (nibs 0 (deep_of w) (bits_of w)) (blanked_in have (deep_of w) own) ≡ levels_left (edit_of p fresh) 0 (way_of p.len p.bits) (blanked_in have (p.len / 4) own)
  levels_same =
      ap (λ z. levels_left (words_edit z fresh) 0 (nibs 0 (deep_of z) (bits_of z)) (blanked_in have (deep_of z) own)) is
      ∙ ap (λ z. levels_left z 0 (nibs 0 (p.len / 4) (p.bits % 2 ^ 32)) (blanked_in have (p.len / 4) own)) same_edit
      ∙ ap (λ z. levels_left (edit_of p fresh) 0 (nibs 0 (p.len / 4) z) (blanked_in have (p.len / 4) own)) whole_bits

module _ (v : ℕ → ℕ → ℕ) (hall : Hall) (g : Ghost) (o : List ℕ) (rs : List Route) (n : Now) (j : Job) (k have : ℕ) (W : Tree) (s : Staged v g o rs n j k W) where
  abbrev piece : Piece
  piece = get_or s.ps k blank

  abbrev way : List ℕ
  way = way_of piece.len piece.bits

  abbrev change : RouteEdit
  change = piece_edit piece (words_of o) j.used

  abbrev new : Tree
  new = tree_after piece change W

  -- own words and what is in hand after the edit
  abbrev after : List ℕ
  after = edited o k have j.used

  abbrev job : Job
  job = rebuilt (j.used + levels_edited o k have j.used) (j.retired + have) (fresh_in o j.used) j

  module _ (room : length o ≡ 4096) (f : Have (words_of o) W j.retired piece.bits have (piece.len / 4)) where
    -- Its words have a length of 32 at most.
    short : (piece_in o k).len ≤ 32
    short = subst (λ z. z.len ≤ 32) (sym (staged_words v g o rs n j k W s)) (staged_clean v g o rs n j k W s).short

    -- At most nine nodes were read.
    few : have ≤ 9
    few = let l = (staged_clean v g o rs n j k W s).short in omega (arith, f.few)

    -- What it tells is a number of 32 bits.
    tells_small : piece.tells < 2 ^ 32
    tells_small = (s.equipped.sure.pending.fits k s.here).tells

    -- There are blocks for all levels of its way.
    fits : j.used + suc (piece.len / 4) ≤ j.need
    unfolding wants
    fits = omega (arith, (staged_piece v g o rs n j k W s).room)

    -- The own words are those of the edit.
    words_are : words_of after ≡ edited_words change way have (piece.len / 4) (words_of o)
    words_are =
        words_edited o k have j.used room few short
        ∙ edit-piece (piece_in o k) have j.used (words_of o) short
        ∙ edited_same (piece_in o k) piece (staged_words v g o rs n j k W s) (staged_clean v g o rs n j k W s).small tells_small have (words_of o) change.fresh

    -- As many blocks are used as the new way has nodes.
    levels_are : levels_edited o k have j.used ≡ depth way new
    levels_are =
        let l = (staged_clean v g o rs n j k W s).short in
        levels_edited_lem o k have j.used room few short
        ∙ levels_piece (piece_in o k) have j.used (words_of o) short
        ∙ levels_same (piece_in o k) piece (staged_words v g o rs n j k W s) (staged_clean v g o rs n j k W s).small tells_small have (words_of o) change.fresh
        ∙ levels_after v (words_of o) g.tree W change piece.bits (piece.len / 4) have j.need j.used j.retired j.root (place_small piece.len piece.bits) (omega arith) fits
        (need_few s.equipped.sure) (λ e. refl) s.stage.work f

    -- The working root is the first fresh block.
    root_is : fresh_in o j.used ≡ change.fresh 0
    root_is =
        let i = s.stage.work.held.inside (words_of o (fresh_at j.used)) (seg_in (words_of o) (fresh_at 0) j.need j.used (omega (arith, fits))) in
        child_same (words_of o (fresh_at j.used)) i ∙ ap (λ z. words_of o (fresh_at z)) (sym (add-zero j.used))

    -- The edit leaves pieces and blocks as they are.
    same_but : (retired : ℕ) → SameBut (words_of o) (words_of after) retired
    same_but retired i (inl l) = edited_outside o k have j.used room few short i (inl l)
    same_but retired i (inr l) = edited_outside o k have j.used room few short i (inr (omega (arith, l.0)))

    -- The update is still equipped.
    equipped_after : Equipped g after rs n job calm s.ps s.qs
    equipped_after =
        let e = equipped_stays g o after rs n j calm s.ps s.qs j.retired (same_but j.retired) s.equipped in
        record { has = e.has; whole = e.whole; awaits = e.awaits; all = e.all; sure = record { pending = e.sure.pending; makes = e.sure.makes; need = e.sure.need } }

    -- The new nodes are to be written.
    write_begins : Write v (words_of after) g.tree W change way j.need j.used (j.retired + have) (fresh_in o j.used) 0 0
    write_begins =
        subst (λ z. Write v (words_of after) g.tree W change way j.need j.used (j.retired + have) z 0 0) (sym root_is)
        (subst (λ z. Write v z g.tree W change way j.need j.used (j.retired + have) (change.fresh 0) 0 0) (sym words_are)
        (stage_edit v (words_of o) g.tree W j.need j.used j.retired j.root have s.ts s.qs piece (drop (suc k) s.ps) (need_few s.equipped.sure) (staged_piece v g o rs n j k W s) f))

    -- What comes next: the first word of the first new node.
    pub images_edited : (x : ℕ) → GoesOn v hall g after rs n (build_after j (Edit k have) o x)
    unfolding PhaseFacts BuildFacts
    images_edited x = on_build v hall g after rs n job (ToWrite k j.used 0 0) (record {
      ps = s.ps;
      qs = s.qs;
      ts = s.ts;
      equipped = equipped_after;
      here = s.here;
      p = piece;
      is = refl;
      W = W;
      val = v;
      own = words_of o;
      root = j.root;
      retired = j.retired;
      have = have;
      fresh = change.fresh;
      stage = staged_piece v g o rs n j k W s;
      few = f.few;
      replaced = refl;
      uses = ap (λ z. j.used + z) levels_are;
      write = write_begins;
      deep = edit_some change 0 way W;
      word = omega arith;
    })
