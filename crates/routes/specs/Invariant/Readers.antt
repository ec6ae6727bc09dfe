-- What each processor's registers say of what it does, and a lookup's of the nodes that it will still touch.
-- Assumes nothing.
use Rattle.std.specs.Prelude.{◌≡◌, ℕ, suc, ◌+◌, ◌^◌, ◌<◌, ◌≤◌, true, ◌||◌, List, [], length, ◌==◌, ◌≢◌, nat_lt, slice_index_or}
use Rattle.routes.specs.declared.Answer.{Answer}
use Rattle.routes.specs.declared.Ask.TheVariants.{Find, Change}
use Rattle.routes.specs.declared.Piece.{Piece}
use Rattle.routes.specs.declared.lookup.Lookup.{Lookup}
use Rattle.routes.specs.declared.lookup.Lookup.TheVariants.{Epoch, Announce, Root, Node, Leave}
use Rattle.routes.specs.declared.update.job.Job.{Job}
use Rattle.routes.specs.declared.update.Phase.{Phase}
use Rattle.routes.specs.declared.update.Phase.TheVariants.{Refuse, Lock, Check, Obtain, Recycle, Scan, Build, Publish, Retire, Reclaim, Finish}
use Rattle.routes.specs.declared.work.Work.{Work}
use Rattle.routes.specs.declared.work.Work.TheVariants.{Idle, Lookup as Looking, Update as Updating}
use Rattle.routes.specs.Memory.{Mem}
use Rattle.routes.specs.Routes.{Now, Quiet, Under, Over}
use Rattle.routes.specs.Machine.Begins.{blank, stored, start_job, PieceFits}
use Rattle.routes.specs.Machine.Checks.{piece_in}
use Rattle.routes.specs.Counts.Counts.{cnt}
use Rattle.routes.specs.Repr.Repr.{Follow}
use Rattle.routes.specs.Run.Nows.{is_change}
use Rattle.routes.specs.Tree.Trees.{count}
use Rattle.routes.specs.Invariant.Ghosts.{Ghost, limbo}
use Rattle.routes.specs.Invariant.Registers.{loaded, announced}

-- the change of these pieces is under way and has not taken effect
abbrev pub Awaits : List Piece → Now → Type 0
Awaits ps n = (c : ℕ) × (age : ℕ) × (n ≡ Under (Change c) ps age)

-- a change is under way that has taken effect, with this answer
abbrev pub Settled : Answer → Now → Type 0
Settled a n = (c : ℕ) × (age : ℕ) × (n ≡ Over (Change c) a age)

-- a question for this address, before and after its moment
abbrev pub Asks : ℕ → Now → Type 0
Asks a n = (ps : List Piece) × (age : ℕ) × (n ≡ Under (Find a) ps age)

abbrev pub Answered : ℕ → Answer → Now → Type 0
Answered a r n = (age : ℕ) × (n ≡ Over (Find a) r age)

-- the pieces of an update stand among the own words
pub record Pending (o : List ℕ) (size : ℕ) (ps : List Piece) : Type 0 where
  pub length' : length ps ≡ size
  pub some : 1 ≤ size
  pub few : size ≤ 8
  pub words : (k : ℕ) → k < size → piece_in o k ≡ stored (slice_index_or ps k blank)
  pub fits : (k : ℕ) → k < size → PieceFits (slice_index_or ps k blank)

unfoldable pub LooksUp : (ℕ → ℕ → ℕ) → Lookup → List ℕ → Now → Type 0
LooksUp val (Epoch a) trail n = (trail ≡ []) × (a < 2 ^ 32) × Asks a n
LooksUp val (Announce a e) trail n = (trail ≡ []) × (a < 2 ^ 32) × Asks a n
LooksUp val (Root a e) trail n = (trail ≡ []) × (a < 2 ^ 32) × Asks a n
LooksUp val (Node a e d b best) trail n = (r : Answer) × Answered a r n × Follow val a d b best trail r × (b ≢ 0)
LooksUp val (Leave e best) trail n = (trail ≡ []) × ((a : ℕ) × Answered a best n)

-- of an update that holds the lock more is said elsewhere
unfoldable pub Updates : List ℕ → Job → Phase → Now → Type 0
Updates o j Refuse n = (ps : List Piece) × Awaits ps n × ((length ps == 0 || nat_lt 8 (length ps)) ≡ true)
Updates o j Lock n = (ps : List Piece) × Awaits ps n × Pending o j.size ps × (j ≡ start_job j.size)
Updates o j (Check s) n = is_change n ≡ true
Updates o j (Obtain s) n = is_change n ≡ true
Updates o j (Recycle s) n = is_change n ≡ true
Updates o j (Scan s) n = is_change n ≡ true
Updates o j (Build s) n = is_change n ≡ true
Updates o j (Publish s) n = is_change n ≡ true
Updates o j (Retire s) n = is_change n ≡ true
Updates o j (Reclaim s) n = is_change n ≡ true
Updates o j (Finish s) n = is_change n ≡ true

unfoldable pub Does : (ℕ → ℕ → ℕ) → Work → List ℕ → List ℕ → Now → Type 0
Does val Idle o trail n = (trail ≡ []) × (n ≡ Quiet)
Does val (Looking l) o trail n = LooksUp val l trail n
Does val (Updating j s) o trail n = (trail ≡ []) × Updates o j s n

-- of processor q: the trail is the nodes that it will still touch
pub record Reader (m : Mem) (g : Ghost) (trail : List ℕ) (q : ℕ) (work : Work) (o : List ℕ) (n : Now) : Type 0 where
  pub active : m.val 0 (16 + q) ≡ announced work
  pub old : loaded work ≤ suc (m.val 0 2)
  pub does : Does m.val work o trail n
  -- they are in the tree, or in limbo with a stamp not before the epoch that it loaded
  pub safe : (b : ℕ) → 1 ≤ cnt b trail → 1 ≤ count b g.tree + limbo g b
  pub clear : (b : ℕ) → 1 ≤ cnt b trail → 1 ≤ limbo g b → loaded work ≤ suc (g.stamps b)
