-- What is known of a table in memory beside the memory itself.
-- Assumes nothing.
use Rattle.std.specs.Prelude.{ℕ, ◌+◌, Bool, List}
use Rattle.routes.specs.Routes.{Route}
use Rattle.routes.specs.Counts.Counts.{cnt}
use Rattle.routes.specs.Tree.Trees.{Tree}

-- which late stores the holder of the lock may have
pub data Row : Type 0 where
  -- none
  still : Row
  -- to LIMBO_HEAD and LIMBO_TAIL
  heads : Row
  -- where no lookup looks
  calm : Row
  -- the new root alone: the tree that it is published with, the blocks that it replaces, the fresh blocks that it leaves, and its table
  ripe : (new : Tree) (retired rest : List ℕ) (table : List Route) → Row

pub record Ghost : Type 0 where
  -- the published tree
  pub tree : Tree
  -- retired nodes: linked in memory, oldest first; and those not linked yet, or no more
  pub chain : List ℕ
  pub loose : List ℕ
  -- blocks got for an update and not published
  pub fresh : List ℕ
  -- the epoch in which a node was retired
  pub stamps : ℕ → ℕ
  -- LIMBO_TAIL may be wrong
  pub torn : Bool
  pub row : Row

-- how often a block is in limbo
abbrev pub limbo : Ghost → ℕ → ℕ
limbo g b = cnt b g.chain + cnt b g.loose
