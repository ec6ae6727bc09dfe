-- What the registers of the holder say, of what it sees (v), of the ghosts, its own words, the table and its change.
-- Assumes nothing.
use Rattle.std.specs.Prelude.{ℕ, ◌<◌, List}
use Rattle.routes.specs.declared.update.job.Job.{Job}
use Rattle.routes.specs.declared.update.Phase.{Phase}
use Rattle.routes.specs.declared.update.Phase.TheVariants.{Refuse, Lock, Check, Obtain, Recycle, Scan, Build, Publish, Retire, Reclaim, Finish}
use Rattle.routes.specs.declared.update.scan.Scan.{Scan as ScanState}
use Rattle.routes.specs.declared.update.scan.Scan.TheVariants.{ForNode, ForLimit}
use Rattle.routes.specs.declared.work.Work.{Work}
use Rattle.routes.specs.declared.work.Work.TheVariants.{Idle, Lookup as Looking, Update as Updating}
use Rattle.routes.specs.Memory.{Mem}
use Rattle.routes.specs.Routes.{Route, Now}
use Rattle.routes.specs.Invariant.Ghosts.{Ghost}
use Rattle.routes.specs.Invariant.Holders.{Resting}
use Rattle.routes.specs.Invariant.Checking.{CheckFacts}
use Rattle.routes.specs.Invariant.Gathering.{ObtainFacts, RecycleFacts, Stands}
use Rattle.routes.specs.Invariant.Building.{BuildFacts, PublishFacts}
use Rattle.routes.specs.Invariant.Retiring.{RetireFacts, Reclaims, ReclaimFacts, FinishFacts}

-- how many processors and blocks there are
pub record Hall : Type 0 where
  pub cpus : ℕ
  pub blocks : ℕ

abbrev pub hall_of : Mem → Hall
hall_of m = record { cpus = m.cpus; blocks = m.blocks }

unfoldable pub ScanFacts : Hall → Ghost → List ℕ → List Route → Now → Job → ScanState → Type 0
ScanFacts hall g o rs n j (ForNode q b stamp) = Stands hall.cpus g o rs n j q b stamp
ScanFacts hall g o rs n j (ForLimit q limit) = Reclaims g o n j × (q < hall.cpus)

unfoldable pub PhaseFacts : (ℕ → ℕ → ℕ) → Hall → Ghost → List ℕ → List Route → Now → Job → Phase → Type 0
PhaseFacts v hall g o rs n j Refuse = Resting g
PhaseFacts v hall g o rs n j Lock = Resting g
PhaseFacts v hall g o rs n j (Check s) = CheckFacts g o rs n j s
PhaseFacts v hall g o rs n j (Obtain s) = ObtainFacts g o rs n j s
PhaseFacts v hall g o rs n j (Recycle s) = RecycleFacts v hall.blocks g o rs n j s
PhaseFacts v hall g o rs n j (Scan s) = ScanFacts hall g o rs n j s
PhaseFacts v hall g o rs n j (Build s) = BuildFacts v g o rs n j s
PhaseFacts v hall g o rs n j (Publish s) = PublishFacts v g o rs n j s
PhaseFacts v hall g o rs n j (Retire s) = RetireFacts v g o n j s
PhaseFacts v hall g o rs n j (Reclaim s) = ReclaimFacts v g o n j s
PhaseFacts v hall g o rs n j (Finish s) = FinishFacts g o n j s

-- of one that has not the lock, and had it last: nothing is left over
unfoldable pub Writer : (ℕ → ℕ → ℕ) → Hall → Ghost → List ℕ → List Route → Now → Work → Type 0
Writer v hall g o rs n Idle = Resting g
Writer v hall g o rs n (Looking l) = Resting g
Writer v hall g o rs n (Updating j s) = PhaseFacts v hall g o rs n j s
