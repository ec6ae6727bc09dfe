-- What is proved of building a change.
-- Assumes nothing.
use Rattle.std.specs.Prelude.{◌≡◌, ℕ, suc, ◌+◌, ◌/◌, ◌<◌, ◌≤◌, Bool, true, List, [], ◌∷◌, length, ◌==◌}
use Rattle.own.specs.declared.piece.PieceWords.{PieceWords}
use Rattle.own.specs.Pieces.{earlier_of}
use Rattle.routes.specs.declared.Piece.{Piece}
use Rattle.routes.specs.Routes.{Route, Table, pieces, too_much}
use Rattle.routes.specs.Counts.Counts.{bit, cnt}
use Rattle.routes.specs.Table.Lookups.{decides}
use Rattle.routes.specs.Keys.Keys.{way_of}
use Rattle.routes.specs.Tree.Trees.{Tree, count, depth}
use Rattle.routes.specs.Tree.Edits.{edit_of}
use Rattle.routes.specs.Tree.Walks.{Good}
use Rattle.routes.specs.Repr.Images.{Own}
use Rattle.routes.specs.Build.Reads.{Have, edited}
use Rattle.routes.specs.Build.Writes.{Write}
use Rattle.routes.specs.Build.Stages.{piece_edit, tree_after, Stage, Built}
use Rattle.routes.specs.Build.Checks.{Noted, there_after}

-- The last earlier piece with a route says whether it is there.
abbrev pub EarlierDecide : Type 0
EarlierDecide =
    (own : Own) (w : PieceWords) (ps : List Piece) (before : Bool) → Noted own 0 ps → there_after (earlier_of own w (length ps)) before ≡ decides w.len w.bits ps before

-- The nodes of the next piece are read: its images are edited, and its new nodes are to be written.
abbrev pub PiecesEdited : Type 0
PiecesEdited =
    (val : ℕ → ℕ → ℕ) (own : Own) (T W : Tree) (need used retired root have : ℕ) (rs qs : List Route) (p : Piece) (ps : List Piece) → need ≤ 72 →
    Stage val own T W need used retired root rs qs (p ∷ ps) → Have own W retired p.bits have (p.len / 4) →
    Write val (edited (piece_edit p own used) (way_of p.len p.bits) have (p.len / 4) own) T W (piece_edit p own used) (way_of p.len p.bits) need used (retired + have) ((piece_edit p own used).fresh 0) 0 0

-- They are written: the pieces behind it are left.
abbrev pub PiecesWritten : Type 0
PiecesWritten =
    (val val' : ℕ → ℕ → ℕ) (own own' : Own) (T W : Tree) (need used retired root have root' d : ℕ) (fresh : ℕ → ℕ) (rs qs : List Route) (p : Piece) (ps : List Piece) → have ≤ suc (p.len / 4) →
    Stage val own T W need used retired root rs qs (p ∷ ps) → d ≡ depth (way_of p.len p.bits) (tree_after p (edit_of p fresh) W) →
    Write val' own' T W (edit_of p fresh) (way_of p.len p.bits) need used (retired + have) root' d 0 →
    (ts : List Route) × Stage val' own' T (tree_after p (edit_of p fresh) W) need (used + d) (retired + have) root' ts qs ps

-- No piece is left: the tree to publish.
abbrev pub ChangesBuilt : Type 0
ChangesBuilt =
    (val : ℕ → ℕ → ℕ) (own : Own) (T W : Tree) (need used retired root : ℕ) (rs qs : List Route) →
    Stage val own T W need used retired root rs qs [] → Built val own T W need used retired root qs

-- If each block is block 0, a node's of the table's tree or one of at most 71, there are fewer than the routes before and after a change may want.
abbrev pub FullIsTooMuch : Type 0
FullIsTooMuch =
    (blocks : ℕ) (t : Tree) (xs : List ℕ) (rs qs : List Route) (ps : List Piece) → ((b : ℕ) → b < blocks → 1 ≤ bit (b == 0) + count b t + cnt b xs) → length xs ≤ 71 → Good t rs →
    length ps ≤ 8 → pieces ps (Table rs) ≡ Table qs → too_much blocks rs qs ≡ true
