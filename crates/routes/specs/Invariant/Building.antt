-- Build and publish: the working tree has the routes of the table after the first pieces.
-- Assumes nothing.
use Rattle.std.specs.Prelude.{◌≡◌, ℕ, suc, ◌+◌, ◌/◌, ◌<◌, ◌≤◌, false, ◌⊎◌, List, [], ◌∷◌, get_or, drop, slice_index_or}
use Rattle.own.specs.Layout.{words_of}
use Rattle.routes.specs.declared.Answer.TheVariants.{Done}
use Rattle.routes.specs.declared.Piece.{Piece}
use Rattle.routes.specs.declared.update.job.Job.{Job}
use Rattle.routes.specs.declared.update.build.Build.{Build}
use Rattle.routes.specs.declared.update.build.Build.TheVariants.{Root, Read, Edit, Write as ToWrite}
use Rattle.routes.specs.declared.update.publish.Publish.{Publish}
use Rattle.routes.specs.declared.update.publish.Publish.TheVariants.{FenceNodes, SetRoot, FenceRoot}
use Rattle.routes.specs.Routes.{Route, Now}
use Rattle.routes.specs.Machine.Begins.{blank}
use Rattle.routes.specs.Build.Reads.{Reading, Have}
use Rattle.routes.specs.Build.Stages.{Stage, Built, tree_after}
use Rattle.routes.specs.Build.Writes.{Write}
use Rattle.routes.specs.Counts.Counts.{cnt}
use Rattle.routes.specs.Keys.Keys.{way_of}
use Rattle.routes.specs.Tree.Edits.{edit_of}
use Rattle.routes.specs.Tree.Trees.{Tree, depth}
use Rattle.routes.specs.Invariant.Ghosts.{Ghost, Row, still, calm, ripe}
use Rattle.routes.specs.Invariant.Readers.{Awaits, Settled}
use Rattle.routes.specs.Invariant.Holders.{Has, Sure, got_blocks, rest_blocks, replaced_blocks}

-- all blocks are there, and the pieces are sure to come to qs
pub record Equipped (g : Ghost) (o : List ℕ) (rs : List Route) (n : Now) (j : Job) (row : Row) (ps : List Piece) (qs : List Route) : Type 0 where
  pub has : Has g row [] (got_blocks o j)
  pub whole : g.torn ≡ false
  pub awaits : Awaits ps n
  pub sure : Sure rs o j ps qs
  pub all : j.got ≡ j.need

-- the working tree before piece k
pub record Staged (v : ℕ → ℕ → ℕ) (g : Ghost) (o : List ℕ) (rs : List Route) (n : Now) (j : Job) (k : ℕ) (W : Tree) : Type 0 where
  pub ps : List Piece
  pub qs : List Route
  pub ts : List Route
  pub equipped : Equipped g o rs n j calm ps qs
  pub here : k < j.size
  pub stage : Stage v (words_of o) g.tree W j.need j.used j.retired j.root ts qs (drop k ps)

-- piece k is edited, and its new nodes are being written: word i of level d is next
pub record Writes (v : ℕ → ℕ → ℕ) (g : Ghost) (o : List ℕ) (rs : List Route) (n : Now) (j : Job) (k first d i : ℕ) : Type 0 where
  pub ps : List Piece
  pub qs : List Route
  pub ts : List Route
  pub equipped : Equipped g o rs n j calm ps qs
  pub here : k < j.size
  pub p : Piece
  pub is : p ≡ slice_index_or ps k blank
  pub W : Tree
  -- the memory and the own words before the edit
  pub val : ℕ → ℕ → ℕ
  pub own : ℕ → ℕ
  pub root : ℕ
  pub retired : ℕ
  pub have : ℕ
  pub fresh : ℕ → ℕ
  pub stage : Stage val own g.tree W j.need first retired root ts qs (p ∷ drop (suc k) ps)
  pub few : have ≤ suc (p.len / 4)
  pub replaced : j.retired ≡ retired + have
  pub uses : j.used ≡ first + depth (way_of p.len p.bits) (tree_after p (edit_of p fresh) W)
  pub write : Write v (words_of o) g.tree W (edit_of p fresh) (way_of p.len p.bits) j.need first j.retired j.root d i
  pub deep : d < depth (way_of p.len p.bits) (tree_after p (edit_of p fresh) W)
  pub word : i < 31

unfoldable pub BuildFacts : (ℕ → ℕ → ℕ) → Ghost → List ℕ → List Route → Now → Job → Build → Type 0
BuildFacts v g o rs n j Root = (ps : List Piece) × (qs : List Route) × Equipped g o rs n j calm ps qs × (j.used ≡ 0) × (j.retired ≡ 0)
BuildFacts v g o rs n j (Read k d i b) =
    (W : Tree) × (s : Staged v g o rs n j k W) × Reading (words_of o) W j.retired (get_or s.ps k blank).bits d i b × (d ≤ (get_or s.ps k blank).len / 4) × (i < 31)
BuildFacts v g o rs n j (Edit k have) =
    (W : Tree) × (s : Staged v g o rs n j k W) × Have (words_of o) W j.retired (get_or s.ps k blank).bits have ((get_or s.ps k blank).len / 4)
BuildFacts v g o rs n j (ToWrite k first d i) = Writes v g o rs n j k first d i

-- all pieces are built: the tree to publish
pub record Published (v : ℕ → ℕ → ℕ) (g : Ghost) (o : List ℕ) (rs : List Route) (n : Now) (j : Job) (row : Row) : Type 0 where
  pub ps : List Piece
  pub qs : List Route
  pub W : Tree
  pub equipped : Equipped g o rs n j row ps qs
  pub built : Built v (words_of o) g.tree W j.need j.used j.retired j.root qs
  pub spent : j.used ≤ j.need
  pub few : j.retired ≤ 72

-- the root is stored, and has not arrived
pub record Ripens (g : Ghost) (o : List ℕ) (rs : List Route) (n : Now) (j : Job) : Type 0 where
  pub ps : List Piece
  pub qs : List Route
  pub W : Tree
  pub row : g.row ≡ ripe W (replaced_blocks o j) (rest_blocks o j) qs
  pub fresh : g.fresh ≡ got_blocks o j
  pub awaits : Awaits ps n
  pub sure : Sure rs o j ps qs

-- it has arrived: what it replaced is loose, with the epoch that the holder sees
pub record Landed (v : ℕ → ℕ → ℕ) (g : Ghost) (o : List ℕ) (n : Now) (j : Job) : Type 0 where
  pub has : Has g still (replaced_blocks o j) (rest_blocks o j)
  pub done : Settled Done n
  pub stamps : (b : ℕ) → 1 ≤ cnt b g.loose → g.stamps b ≡ v 0 2

unfoldable pub PublishFacts : (ℕ → ℕ → ℕ) → Ghost → List ℕ → List Route → Now → Job → Publish → Type 0
PublishFacts v g o rs n j FenceNodes = Published v g o rs n j calm
PublishFacts v g o rs n j SetRoot = Published v g o rs n j still
PublishFacts v g o rs n j FenceRoot = (g.torn ≡ false) × (j.used ≤ j.got) × (j.got ≤ 72) × (j.retired ≤ 72) × (Ripens g o rs n j ⊎ Landed v g o n j)
