-- What holds of the memory, whatever the registers are.
-- Assumes nothing.
use Rattle.std.specs.Prelude.{◌≡◌, ℕ, suc, ◌+◌, ◌<◌, ◌≤◌, Bool, true, false, cond, List, [], ◌∷◌, ◌==◌, ◌≢◌}
use Rattle.routes.specs.Memory.{Mem}
use Rattle.routes.specs.Routes.{Route}
use Rattle.routes.specs.Counts.Counts.{bit, cnt}
use Rattle.routes.specs.Late.Rows.{OnlyLate, AllRow, store_of}
use Rattle.routes.specs.Late.View.{view}
use Rattle.routes.specs.Repr.Repr.{Repr}
use Rattle.routes.specs.Tree.Trees.{Tree, block_of, count}
use Rattle.routes.specs.Tree.Walks.{Good}
use Rattle.routes.specs.Invariant.Ghosts.{Ghost, Row, still, heads, calm, ripe}

-- nodes linked through NEXT_RETIRED, from x on
unfoldable pub Chain : (ℕ → ℕ → ℕ) → ℕ → List ℕ → Type 0
Chain v x [] = x ≡ 0
Chain v x (b ∷ bs) = (x ≡ b) × (x ≢ 0) × Chain v (v b 32) bs

unfoldable pub last_from : ℕ → List ℕ → ℕ
last_from x [] = x
last_from x (b ∷ bs) = last_from b bs

-- a store to LIMBO_HEAD or LIMBO_TAIL
abbrev pub HeadStore : ℕ → ℕ → ℕ → Type 0
HeadStore b w x = (b ≡ 0) × (3 ≤ w) × (w ≤ 4)

-- a store to these, to EPOCH of what the holder sees there, to a fresh block, or to RETIRED_AT and NEXT_RETIRED
abbrev pub CalmStore : List ℕ → ℕ → ℕ → ℕ → ℕ → Type 0
CalmStore fresh epoch b w x = (b ≡ 0 → (2 ≤ w) × (w ≤ 4) × (w ≡ 2 → x ≡ epoch)) × ((b ≢ 0) → w < 31 → 1 ≤ cnt b fresh)

-- the new root is the one late store: its tree stands, and it and what it replaces and leaves are the published tree and the fresh blocks
pub record Ripe (m : Mem) (h : ℕ) (g : Ghost) (new : Tree) (retired rest : List ℕ) (table : List Route) : Type 0 where
  pub late : m.late h ≡ store_of 0 1 (block_of new) ∷ []
  pub repr : Repr m.val new
  pub good : Good new table
  pub settled : g.loose ≡ []
  pub balance : (b : ℕ) → count b new + cnt b retired + cnt b rest ≡ count b g.tree + cnt b g.fresh
  pub unspent : (b : ℕ) → cnt b rest ≤ cnt b g.fresh

unfoldable pub RowOk : Row → Mem → ℕ → Ghost → ℕ → Type 0
RowOk still m h g epoch = m.late h ≡ []
RowOk heads m h g epoch = AllRow HeadStore (m.late h)
RowOk calm m h g epoch = AllRow (CalmStore g.fresh epoch) (m.late h)
RowOk (ripe new retired rest table) m h g epoch = Ripe m h g new retired rest table

-- of v, what the holder sees: epochs and limbo; arrived is EPOCH as others see it
pub record Sight (v : ℕ → ℕ → ℕ) (g : Ghost) (arrived t : ℕ) : Type 0 where
  pub ahead : arrived ≤ v 0 2
  pub early : v 0 2 ≤ t
  pub linked : Chain v (v 0 3) g.chain
  pub ending : g.torn ≡ false → v 0 4 ≡ last_from 0 g.chain
  pub stamped : (b : ℕ) → 1 ≤ cnt b g.chain → (v b 31 ≡ g.stamps b) × (g.stamps b < v 0 2)
  pub newest : (b : ℕ) → 1 ≤ cnt b g.loose → g.stamps b ≤ v 0 2

-- how large a hall may be
pub record Sizes (m : Mem) : Type 0 where
  pub someone : 1 ≤ m.cpus
  pub cpus : m.cpus ≤ 16
  pub blocks : m.blocks ≤ 1048576

-- h has the lock or had it last; rs is the table; t turns have been taken
pub record Core (m : Mem) (h : ℕ) (locked : Bool) (g : Ghost) (rs : List Route) (t : ℕ) : Type 0 where
  pub sizes : Sizes m
  pub others : OnlyLate h m
  pub row : RowOk g.row m h g (view h m 0 2)
  pub writer : m.val 0 0 ≡ cond locked (suc h) 0
  pub root : m.val 0 1 ≡ block_of g.tree
  pub repr : Repr m.val g.tree
  pub good : Good g.tree rs
  -- every held block is the header, in the tree, in limbo or fresh, and once
  pub blocks : (b : ℕ) → bit (b == 0) + count b g.tree + cnt b g.chain + cnt b g.loose + cnt b g.fresh ≡ bit (m.held b)
  pub inside : (b : ℕ) → m.held b ≡ true → b < m.blocks
  pub sight : Sight (view h m) g (m.val 0 2) t
