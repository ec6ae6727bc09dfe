-- Obtain, recycle and the scan for a node: blocks are got until there are as many as the update needs.
-- Assumes nothing.
use Rattle.std.specs.Prelude.{◌≡◌, ℕ, ◌<◌, ◌≤◌, false, List, []}
use Rattle.routes.specs.declared.Answer.TheVariants.{Full as FullAnswer}
use Rattle.routes.specs.declared.Piece.{Piece}
use Rattle.routes.specs.declared.update.job.Job.{Job}
use Rattle.routes.specs.declared.update.obtain.Obtain.{Obtain}
use Rattle.routes.specs.declared.update.obtain.Obtain.TheVariants.{Get, Undo, Full}
use Rattle.routes.specs.declared.update.recycle.Recycle.{Recycle}
use Rattle.routes.specs.declared.update.recycle.Recycle.TheVariants.{Head, RetiredAt, Next, SetHead, SetTail}
use Rattle.routes.specs.Routes.{Route, Now}
use Rattle.routes.specs.Invariant.Ghosts.{Ghost, heads}
use Rattle.routes.specs.Invariant.Readers.{Awaits, Settled}
use Rattle.routes.specs.Invariant.Holders.{Has, Sure, Oldest, AllUsed, got_blocks}

-- some blocks are got, and nothing is built
pub record Gathered (g : Ghost) (o : List ℕ) (rs : List Route) (n : Now) (j : Job) : Type 0 where
  pub has : Has g heads [] (got_blocks o j)
  pub ps : List Piece
  pub qs : List Route
  pub awaits : Awaits ps n
  pub sure : Sure rs o j ps qs
  pub enough : j.got ≤ j.need
  pub used : j.used ≡ 0
  pub retired : j.retired ≡ 0

-- and one more is wanted
pub record Gathers (g : Ghost) (o : List ℕ) (rs : List Route) (n : Now) (j : Job) : Type 0 where
  pub gathered : Gathered g o rs n j
  pub whole : g.torn ≡ false
  pub wants' : j.got < j.need

-- there is no room: what was got goes back
pub record Undoes (g : Ghost) (o : List ℕ) (n : Now) (j : Job) : Type 0 where
  pub has : Has g heads [] (got_blocks o j)
  pub whole : g.torn ≡ false
  pub full : Settled FullAnswer n
  pub few : j.got ≤ 72

unfoldable pub ObtainFacts : Ghost → List ℕ → List Route → Now → Job → Obtain → Type 0
ObtainFacts g o rs n j Get = Gathers g o rs n j
ObtainFacts g o rs n j Undo = Undoes g o n j × (0 < j.got)
ObtainFacts g o rs n j Full = Undoes g o n j × (j.got ≡ 0)

unfoldable pub RecycleFacts : (ℕ → ℕ → ℕ) → ℕ → Ghost → List ℕ → List Route → Now → Job → Recycle → Type 0
RecycleFacts v blocks g o rs n j Head = Gathers g o rs n j × AllUsed blocks g
RecycleFacts v blocks g o rs n j (RetiredAt b) = Gathers g o rs n j × Oldest g b
RecycleFacts v blocks g o rs n j (Next b grace) = Gathers g o rs n j × Oldest g b × (g.stamps b < grace.before)
RecycleFacts v blocks g o rs n j (SetHead b next grace) = Gathers g o rs n j × Oldest g b × (g.stamps b < grace.before) × (v b 32 ≡ next)
RecycleFacts v blocks g o rs n j SetTail = Gathered g o rs n j × (g.chain ≡ [])

-- stands at processor q for the oldest retired node
pub record Stands (cpus : ℕ) (g : Ghost) (o : List ℕ) (rs : List Route) (n : Now) (j : Job) (q b stamp : ℕ) : Type 0 where
  pub gathers : Gathers g o rs n j
  pub oldest : Oldest g b
  pub stamped : g.stamps b ≡ stamp
  pub here : q < cpus
