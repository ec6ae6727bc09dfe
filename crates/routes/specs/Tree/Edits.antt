-- A route word changed in a tree, on new nodes along its way.
-- Assumes nothing.
use Rattle.std.specs.Prelude.{ℕ, suc, cond, List, [], ◌∷◌, ◌==◌}
use Rattle.words.specs.Address.{place}
use Rattle.routes.specs.declared.Piece.{Piece}
use Rattle.routes.specs.Memory.{set_at}
use Rattle.routes.specs.Table.Lookups.{word_after}
use Rattle.routes.specs.Tree.Trees.{Tree, none, node, routes_of, kids_of, weight}

-- the place of the word, what it becomes, and the new block of each level
pub record RouteEdit : Type 0 where
  pub place : ℕ
  pub word : ℕ
  pub fresh : ℕ → ℕ

-- an empty node is cut
unfoldable pub cut : Tree → Tree
cut t = cond (weight t == 0) none t

-- the tree from level d on, with its nodes on the way copied to new blocks; below the first of them what is empty is cut
unfoldable pub edit : RouteEdit → ℕ → List ℕ → Tree → Tree
edit c d [] t = node (c.fresh d) (set_at c.place c.word (routes_of t)) (kids_of t)
edit c d (n ∷ ns) t = node (c.fresh d) (routes_of t) (set_at n (cut (edit c (suc d) ns (kids_of t n))) (kids_of t))

-- what a piece of a change edits
abbrev pub edit_of : Piece → (ℕ → ℕ) → RouteEdit
edit_of p fresh = record { place = place p.len p.bits; word = word_after p; fresh = fresh }
