-- What is proved of trees.
-- Assumes nothing.
use Rattle.std.specs.Prelude.{◌≡◌, ℕ, ◌+◌, ◌*◌, ◌^◌, ◌<◌, ◌≤◌, cond, ◌&&◌, List, ◌==◌}
use Rattle.routes.specs.declared.Answer.TheVariants.{Nothing}
use Rattle.routes.specs.declared.Piece.{Piece}
use Rattle.routes.specs.Routes.{Route, find, Table, piece}
use Rattle.routes.specs.Counts.Counts.{cnt, seg}
use Rattle.routes.specs.Keys.Keys.{way_of, same, Nibbles}
use Rattle.routes.specs.Tree.Trees.{Tree, look, count, path, depth, nodes, routes, Proper, Deep}
use Rattle.routes.specs.Tree.Edits.{RouteEdit, edit, edit_of}
use Rattle.routes.specs.Tree.Walks.{walk, Good}

-- After an edit the word is at its key, and all others are as they were.
abbrev pub LooksEdited : Type 0
LooksEdited =
    (c : RouteEdit) (d : ℕ) (ns ms : List ℕ) (x : ℕ) (t : Tree) → Nibbles ms → x < 15 →
    look ms x (edit c d ns t) ≡ cond (same ms ns && x == c.place) c.word (look ms x t)

-- The new tree has the old one's blocks without those on the way, and the first of the new ones, as many as the way now has nodes.
abbrev pub CountsEdited : Type 0
CountsEdited =
    (c : RouteEdit) (d : ℕ) (ns : List ℕ) (t : Tree) → Nibbles ns →
    (b : ℕ) → count b (edit c d ns t) + path b ns t ≡ count b t + cnt b (seg c.fresh d (depth ns (edit c d ns t)))

-- If no node but the first is empty, there are at most 8 for each route, and the first.
abbrev pub FewNodes : Type 0
FewNodes = (t : Tree) → Deep 9 t → Proper t → nodes t ≤ 1 + 8 * routes t

-- A piece of a change makes a tree of the new table.
abbrev pub PiecesEdit : Type 0
PiecesEdit =
    (p : Piece) (fresh : ℕ → ℕ) (t : Tree) (rs qs : List Route) → p.tells < 2 ^ 32 → piece p rs ≡ Table qs →
    Good t rs → Good (edit (edit_of p fresh) 0 (way_of p.len p.bits) t) qs

-- A walk down a table's tree finds what the table has for the address.
abbrev pub WalksFind : Type 0
WalksFind = (a : ℕ) (t : Tree) (rs : List Route) → a < 2 ^ 32 → Good t rs → walk 9 0 a t Nothing ≡ find a rs
