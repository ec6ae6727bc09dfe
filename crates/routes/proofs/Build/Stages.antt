-- A change built piece by piece.
use Rattle.std.proofs.Common.{◌≡◌, ℕ, ◌+◌, ◌-◌, ◌*◌, ◌/◌, ◌^◌, ◌<◌, ◌≤◌, List, [], ◌∷◌, length, sym, refl, ap, subst, arith}
use mathlib.Core.List.{Memᴰ}
use Rattle.words.proofs.Addresses.{place_small}
use Rattle.own.specs.Layout.{fresh_at, retired_at}
use Rattle.routes.specs.declared.Piece.{Piece}
use Rattle.routes.specs.Routes.{Route, Table, pieces}
use Rattle.routes.specs.Counts.Counts.{cnt}
use Rattle.routes.specs.Table.Tables.{Clean}
use Rattle.routes.specs.Keys.Keys.{way_of}
use Rattle.routes.specs.Tree.Trees.{Tree}
use Rattle.routes.specs.Tree.Edits.{edit_of}
use Rattle.routes.specs.Tree.Walks.{Good}
use Rattle.routes.specs.Repr.Images.{Own}
use Rattle.routes.specs.Build.Writes.{fresh_blocks, Work}
use Rattle.routes.specs.Build.Stages.{wants, piece_edit, tree_after, Stage}
use Rattle.routes.specs.Build.Laws.{PiecesEdited, PiecesWritten, ChangesBuilt}
use Rattle.routes.proofs.Counts.Segments.{cnt_split}
use Rattle.routes.proofs.Table.Pieces.{piece-clean, pieces_cons}
use Rattle.routes.proofs.Table.Sound.{clean-parts}
use Rattle.routes.proofs.Keys.Nibs.{nibs_ok, nibs-length}
use Rattle.routes.proofs.Tree.Trees.{depth_few}
use Rattle.routes.proofs.Tree.Good.{good_piece}
use Rattle.routes.proofs.Build.Blocks.{held_stays}
use Rattle.routes.proofs.Build.Writes.{write_end}
use Rattle.routes.proofs.Build.Turns.{edit_turn}

-- A piece wants at most 9 blocks.
pub wants_few : (ps : List Piece) (rs qs : List Route) → pieces ps (Table rs) ≡ Table qs → wants ps ≤ 9 * length ps
unfolding wants
wants_few [] rs qs e = omega arith
wants_few (p ∷ ps) rs qs e =
    let n = pieces_cons p ps rs qs e in
    omega (arith, (clean-parts p.len p.bits (piece-clean p rs n.0 n.1)).short, wants_few ps n.0 qs n.2)

-- It begins with the published tree, and all pieces.
pub stage_begin : (val : ℕ → ℕ → ℕ) (own : Own) (T : Tree) (need root : ℕ) (rs qs : List Route) (ps : List Piece) → Work val own T T need 0 0 root → Good T rs → pieces ps (Table rs) ≡ Table qs →
    ((p : Piece) → Memᴰ p ps → p.tells < 2 ^ 32) → wants ps ≤ need → Stage val own T T need 0 0 root rs qs ps
stage_begin val own T need root rs qs ps w g e s h = record { work = w; good = g; goes = e; small = s; room = omega arith; slack = omega arith }

-- Own words elsewhere do not matter.
pub stage_stays : (val : ℕ → ℕ → ℕ) (own own' : Own) (T W : Tree) (need used retired root : ℕ) (rs qs : List Route) (ps : List Piece) → need ≤ 72 → ((i : ℕ) → fresh_at 0 ≤ i → i < retired_at retired → own' i ≡ own i) →
    Stage val own T W need used retired root rs qs ps → Stage val own' T W need used retired root rs qs ps
stage_stays val own own' T W need used retired root rs qs ps few h s = record {
  good = s.good;
  goes = s.goes;
  small = s.small;
  room = s.room;
  slack = s.slack;
  work = record { held = held_stays own own' T W need used retired root few h s.work.held; repr = s.work.repr };
}

-- The next piece is clean.
pub stage_clean : (val : ℕ → ℕ → ℕ) (own : Own) (T W : Tree) (need used retired root : ℕ) (rs qs : List Route) (p : Piece) (ps : List Piece) →
    Stage val own T W need used retired root rs qs (p ∷ ps) → Clean p.len p.bits
stage_clean val own T W need used retired root rs qs p ps s =
    let n = pieces_cons p ps rs qs s.goes in clean-parts p.len p.bits (piece-clean p rs n.0 n.1)

-- Its nodes are read: its images are edited, and its new nodes are to be written.
pub stage_edit : PiecesEdited
unfolding wants
stage_edit val own T W need used retired root have rs qs p ps few s g =
    let l = (stage_clean val own T W need used retired root rs qs p ps s).short in let m = s.room in
    edit_turn val own T W (piece_edit p own used) p.bits (p.len / 4) have need used retired root (place_small p.len p.bits) (omega arith) (omega arith) few (λ e. refl) s.work g

-- They are written: the pieces behind it are left.
pub stage_next : PiecesWritten
unfolding wants
stage_next val val' own own' T W need used retired root have root' d fresh rs qs p ps h s e g =
    let n = pieces_cons p ps rs qs s.goes in
    let a = s.room in let b = s.slack in
    let l = depth_few (way_of p.len p.bits) (tree_after p (edit_of p fresh) W) in
    let z = nibs-length 0 (p.len / 4) p.bits in
    let w = write_end val' own' T W (edit_of p fresh) (way_of p.len p.bits) need used (retired + have) root' d (nibs_ok 0 (p.len / 4) p.bits) e g in (
      n.0,
      record {
        work = subst (λ z. Work val' own' T (tree_after p (edit_of p fresh) W) need (used + z) (retired + have) root') (sym e) w;
        good = good_piece p fresh W rs n.0 (s.small p (Memᴰ.head refl)) n.1 s.good;
        goes = n.2;
        small = λ q m. s.small q (Memᴰ.tail m);
        room = omega arith;
        slack = omega arith;
      },
    )

-- No piece is left: the tree to publish.
pub stage_end : ChangesBuilt
unfolding pieces
stage_end val own T W need used retired root rs qs s =
    let e : rs ≡ qs = (let f = s.goes in cc) in
    let l = s.work.held.spent in
    let q : used + (need - used) ≡ need = omega arith in
    record {
      repr = s.work.repr;
      top = s.work.held.top;
      good = subst (λ z. Good W z) e s.good;
      balance = s.work.held.balance;
      rest = λ b. (let m = cnt_split b own (fresh_at 0) used (need - used) in let n : cnt b (fresh_blocks own (used + (need - used))) ≡ cnt b (fresh_blocks own need) = ap (λ z. cnt b (fresh_blocks own z)) q in omega arith);
    }
