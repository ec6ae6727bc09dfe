-- A tree in memory, and the nodes that a walk touches there.
-- Assumes nothing.
use Rattle.std.specs.Prelude.{◌≡◌, ℕ, suc, ◌+◌, ◌^◌, ◌<◌, List, [], ◌∷◌, ◌≢◌}
use Rattle.words.specs.Address.{nib}
use Rattle.words.specs.Slots.{best_fit, slot_word, child_of, fit_of}
use Rattle.routes.specs.declared.Answer.{Answer}
use Rattle.routes.specs.Tree.Trees.{Tree, none, node, block_of}
use Rattle.routes.specs.Tree.Walks.{better}

-- a node's words: its slots follow from its kids and its routes
pub record Stands (val : ℕ → ℕ → ℕ) (b : ℕ) (rs : ℕ → ℕ) (ks : ℕ → Tree) : Type 0 where
  pub real : 0 < b
  pub small : b < 2 ^ 20
  pub slots : (n : ℕ) → n < 16 → val b n ≡ slot_word (block_of (ks n)) (best_fit rs n)
  pub words : (x : ℕ) → x < 15 → val b (16 + x) ≡ rs x

-- each node of a tree stands in its block
unfoldable pub Repr : (ℕ → ℕ → ℕ) → Tree → Type 0
Repr val none = Unit {0}
Repr val (node b rs ks) = Stands val b rs ks × ((n : ℕ) → n < 16 → Repr val (ks n))

-- from level d and block b on, by an address, with what was best till then: the blocks that a walk touches, and what it tells
unfoldable pub Follow : (ℕ → ℕ → ℕ) → ℕ → ℕ → ℕ → Answer → List ℕ → Answer → Type 0
Follow val a d b best [] told = (b ≡ 0) × (best ≡ told)
Follow val a d b best (c ∷ cs) told =
    (b ≡ c) × (b ≢ 0) × (d < 9) × Follow val a (suc d) (child_of (val c (nib d a))) (better d (fit_of (val c (nib d a))) best) cs told
