-- Reading the nodes on a way into images: level by level, 31 words each, with their blocks behind the end of the retired ones.
-- Assumes nothing.
use Rattle.std.specs.Prelude.{◌≡◌, ℕ, suc, ◌+◌, ◌*◌, ◌<◌, ◌≤◌, List, ◌≢◌}
use Rattle.own.specs.Layout.{image_at, retired_at}
use Rattle.own.specs.Functions.{blanked_in}
use Rattle.routes.specs.Tree.Trees.{Tree, none, block_of}
use Rattle.routes.specs.Tree.Edits.{RouteEdit}
use Rattle.routes.specs.Tree.Walks.{down}
use Rattle.routes.specs.Repr.Images.{Own, image_of, edit_images}

-- word i of level d is next, of block b; all before it is read
pub record Reading (own : Own) (t : Tree) (retired a d i b : ℕ) : Type 0 where
  pub words : (e j : ℕ) → j < 31 → 31 * e + j < 31 * d + i → own (image_at e j) ≡ image_of (down a e t) j
  pub blocks : (e : ℕ) → 31 * e < 31 * d + i → own (retired_at (retired + e)) ≡ block_of (down a e t)
  pub here : b ≡ block_of (down a d t)
  pub real : b ≡ 0 → ⊥

-- the nodes on the way of so many levels are read, of levels 0 to deep; there are no more
pub record Have (own : Own) (t : Tree) (retired a have deep : ℕ) : Type 0 where
  pub words : (e j : ℕ) → e < have → j < 31 → own (image_at e j) ≡ image_of (down a e t) j
  pub blocks : (e : ℕ) → e < have → own (retired_at (retired + e)) ≡ block_of (down a e t)
  pub real : (e : ℕ) → e < have → block_of (down a e t) ≢ 0
  pub few : have ≤ suc deep
  pub end : have ≤ deep → down a have t ≡ none

-- the own words after an edit on a way of which have nodes were read, of levels 0 to deep
abbrev pub edited : RouteEdit → List ℕ → ℕ → ℕ → Own → Own
edited c ns have deep own = edit_images c 0 ns (blanked_in have deep own)
