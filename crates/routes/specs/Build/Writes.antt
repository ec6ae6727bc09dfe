-- Writing edited images to new blocks; what holds of blocks meanwhile.
-- Assumes nothing.
use Rattle.std.specs.Prelude.{◌≡◌, ℕ, ◌+◌, ◌-◌, ◌*◌, ◌^◌, ◌<◌, ◌≤◌, List, ◌==◌, ◌≢◌}
use Rattle.own.specs.Layout.{image_at, fresh_at, retired_at}
use Rattle.own.specs.Images.{packed}
use Rattle.routes.specs.Counts.Counts.{bit, cnt, seg}
use Rattle.routes.specs.Tree.Trees.{Tree, block_of, count, depth}
use Rattle.routes.specs.Tree.Edits.{RouteEdit, edit}
use Rattle.routes.specs.Repr.Repr.{Repr}
use Rattle.routes.specs.Repr.Images.{Own, Images}

-- the blocks that were got for a change
abbrev pub fresh_blocks : Own → ℕ → List ℕ
fresh_blocks own need = seg own (fresh_at 0) need

-- those of them that are not used yet
abbrev pub unused_blocks : Own → ℕ → ℕ → List ℕ
unused_blocks own need used = seg own (fresh_at used) (need - used)

-- the blocks that it retires
abbrev pub retired_blocks : Own → ℕ → List ℕ
retired_blocks own retired = seg own (retired_at 0) retired

-- T is the published tree, W the one that is worked on, root its first block
pub record Held (own : Own) (T W : Tree) (need used retired root : ℕ) : Type 0 where
  pub once : (b : ℕ) → bit (b == 0) + count b T + cnt b (fresh_blocks own need) ≤ 1
  pub inside : (b : ℕ) → 1 ≤ cnt b (fresh_blocks own need) → b < 2 ^ 20
  pub spent : used ≤ need
  pub top : root ≡ block_of W
  pub balance : (b : ℕ) → count b W + cnt b (retired_blocks own retired) + cnt b (unused_blocks own need used) ≡ count b T + cnt b (fresh_blocks own need)

-- between two pieces W stands in memory
pub record Work (val : ℕ → ℕ → ℕ) (own : Own) (T W : Tree) (need used retired root : ℕ) : Type 0 where
  pub held : Held own T W need used retired root
  pub repr : Repr val W

-- word i of level d is next; all before it is written
abbrev pub Writing : (ℕ → ℕ → ℕ) → Own → (ℕ → ℕ) → ℕ → ℕ → Type 0
Writing val own fresh d i = (e j : ℕ) → j < 31 → 31 * e + j < 31 * d + i → val (fresh e) j ≡ packed (λ k. own (image_at e k)) j

-- the new block of a level is a fresh one that the tree has not
pub record NewBlock (own : Own) (W : Tree) (c : RouteEdit) (first e : ℕ) : Type 0 where
  pub is : c.fresh e ≡ own (fresh_at (first + e))
  pub real : 0 < c.fresh e
  pub small : c.fresh e < 2 ^ 20
  pub unused : count (c.fresh e) W ≡ 0

-- within a piece W still stands, and its edit is written, to fresh blocks from number first on
pub record Write (val : ℕ → ℕ → ℕ) (own : Own) (T W : Tree) (c : RouteEdit) (ns : List ℕ) (need first retired root d i : ℕ) : Type 0 where
  pub held : Held own T (edit c 0 ns W) need (first + depth ns (edit c 0 ns W)) retired root
  pub repr : Repr val W
  pub images : Images own 0 ns (edit c 0 ns W)
  pub blocks : (e : ℕ) → e < depth ns (edit c 0 ns W) → NewBlock own W c first e
  pub apart : (e f : ℕ) → e < f → f < depth ns (edit c 0 ns W) → c.fresh e ≢ c.fresh f
  pub words : Writing val own c.fresh d i
