-- A change built piece by piece.
-- Assumes nothing.
use Rattle.std.specs.Prelude.{◌≡◌, ℕ, suc, ◌+◌, ◌/◌, ◌^◌, ◌<◌, ◌≤◌, List, [], ◌∷◌}
use mathlib.Core.List.{Memᴰ}
use Rattle.words.specs.Address.{place}
use Rattle.own.specs.declared.piece.PieceWords.{PieceWords}
use Rattle.own.specs.Layout.{fresh_at}
use Rattle.own.specs.Edits.{bits_of, leaves_word}
use Rattle.routes.specs.declared.Piece.{Piece}
use Rattle.routes.specs.Routes.{Route, Table, pieces}
use Rattle.routes.specs.Counts.Counts.{cnt}
use Rattle.routes.specs.Keys.Keys.{way_of}
use Rattle.routes.specs.Tree.Trees.{Tree, block_of, count}
use Rattle.routes.specs.Tree.Edits.{RouteEdit, edit, edit_of}
use Rattle.routes.specs.Tree.Walks.{Good}
use Rattle.routes.specs.Repr.Repr.{Repr}
use Rattle.routes.specs.Repr.Images.{Own}
use Rattle.routes.specs.Build.Writes.{fresh_blocks, unused_blocks, retired_blocks, Work}

-- the blocks that pieces may want: one for each level of each
unfoldable pub wants : List Piece → ℕ
wants [] = 0
wants (p ∷ ps) = suc (p.len / 4) + wants ps

-- the edit of a piece on the fresh blocks from number used on
abbrev pub piece_edit : Piece → Own → ℕ → RouteEdit
piece_edit p own used = edit_of p (λ e. own (fresh_at (used + e)))

-- the edit of a piece by its own words
abbrev pub words_edit : PieceWords → (ℕ → ℕ) → RouteEdit
words_edit w fresh = record { place = place w.len (bits_of w); word = leaves_word w; fresh = fresh }

-- the tree after a piece
abbrev pub tree_after : Piece → RouteEdit → Tree → Tree
tree_after p c W = edit c 0 (way_of p.len p.bits) W

-- W is the tree of rs; the pieces ps are left, and come to qs
pub record Stage (val : ℕ → ℕ → ℕ) (own : Own) (T W : Tree) (need used retired root : ℕ) (rs qs : List Route) (ps : List Piece) : Type 0 where
  pub work : Work val own T W need used retired root
  pub good : Good W rs
  pub goes : pieces ps (Table rs) ≡ Table qs
  pub small : (p : Piece) → Memᴰ p ps → p.tells < 2 ^ 32
  pub room : used + wants ps ≤ need
  pub slack : retired + wants ps ≤ need

-- the tree to publish: it has the routes of qs, and what is neither in it nor unused is retired
pub record Built (val : ℕ → ℕ → ℕ) (own : Own) (T W : Tree) (need used retired root : ℕ) (qs : List Route) : Type 0 where
  pub repr : Repr val W
  pub top : root ≡ block_of W
  pub good : Good W qs
  pub balance : (b : ℕ) → count b W + cnt b (retired_blocks own retired) + cnt b (unused_blocks own need used) ≡ count b T + cnt b (fresh_blocks own need)
  pub rest : (b : ℕ) → cnt b (unused_blocks own need used) ≤ cnt b (fresh_blocks own need)
