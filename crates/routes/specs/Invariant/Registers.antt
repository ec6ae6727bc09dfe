-- What is read off registers: who holds the lock, what a lookup has loaded and announced, what a scan has passed.
-- Assumes nothing.
use Rattle.std.specs.Prelude.{ℕ, suc, Bool, true, false}
use Rattle.routes.specs.declared.lookup.Lookup.{Lookup}
use Rattle.routes.specs.declared.lookup.Lookup.TheVariants.{Epoch, Announce, Root, Node, Leave}
use Rattle.routes.specs.declared.update.Phase.{Phase}
use Rattle.routes.specs.declared.update.Phase.TheVariants.{Refuse, Lock, Check, Obtain, Recycle, Scan, Build, Publish, Retire, Reclaim, Finish}
use Rattle.routes.specs.declared.update.recycle.Recycle.{Recycle as RecycleState}
use Rattle.routes.specs.declared.update.recycle.Recycle.TheVariants.{Head as RecycleHead, RetiredAt as RecycleAt, Next as RecycleNext, SetHead as RecycleSetHead, SetTail as RecycleSetTail}
use Rattle.routes.specs.declared.update.reclaim.Reclaim.{Reclaim as ReclaimState}
use Rattle.routes.specs.declared.update.reclaim.Reclaim.TheVariants.{Head, RetiredAt, Next, SetHead, SetTail, Release}
use Rattle.routes.specs.declared.update.scan.Scan.{Scan as ScanState}
use Rattle.routes.specs.declared.update.scan.Scan.TheVariants.{ForNode, ForLimit}
use Rattle.routes.specs.declared.work.Work.{Work}
use Rattle.routes.specs.declared.work.Work.TheVariants.{Idle, Lookup as Looking, Update as Updating}

-- does an update in this phase hold the lock
unfoldable pub holds_in : Phase → Bool
holds_in Refuse = false
holds_in Lock = false
holds_in (Check s) = true
holds_in (Obtain s) = true
holds_in (Recycle s) = true
holds_in (Scan s) = true
holds_in (Build s) = true
holds_in (Publish s) = true
holds_in (Retire s) = true
holds_in (Reclaim s) = true
holds_in (Finish s) = true

unfoldable pub holds : Work → Bool
holds Idle = false
holds (Looking l) = false
holds (Updating j s) = holds_in s

-- the epoch that a lookup has loaded and 1, or 0
unfoldable pub loaded_in : Lookup → ℕ
loaded_in (Epoch a) = 0
loaded_in (Announce a e) = suc e
loaded_in (Root a e) = suc e
loaded_in (Node a e d b best) = suc e
loaded_in (Leave e best) = suc e

unfoldable pub loaded : Work → ℕ
loaded Idle = 0
loaded (Looking l) = loaded_in l
loaded (Updating j s) = 0

-- what its word ACTIVE holds
unfoldable pub announced_in : Lookup → ℕ
announced_in (Epoch a) = 0
announced_in (Announce a e) = 0
announced_in (Root a e) = suc e
announced_in (Node a e d b best) = suc e
announced_in (Leave e best) = suc e

unfoldable pub announced : Work → ℕ
announced Idle = 0
announced (Looking l) = announced_in l
announced (Updating j s) = 0

-- how many processors a scan has passed, and with which limit
pub record Passed : Type 0 where
  pub many : ℕ
  pub limit : ℕ

abbrev pub nobody : Passed
nobody = record { many = 0; limit = 0 }

abbrev pub passed_by : ℕ → ℕ → Passed
passed_by many limit = record { many = many; limit = limit }

unfoldable pub passed_scan : ScanState → Passed
passed_scan (ForNode q b stamp) = passed_by q (suc stamp)
passed_scan (ForLimit q limit) = passed_by q limit

unfoldable pub passed_recycle : ℕ → RecycleState → Passed
passed_recycle cpus RecycleHead = nobody
passed_recycle cpus (RecycleAt b) = nobody
passed_recycle cpus (RecycleNext b grace) = passed_by cpus grace.before
passed_recycle cpus (RecycleSetHead b next grace) = passed_by cpus grace.before
passed_recycle cpus RecycleSetTail = nobody

unfoldable pub passed_reclaim : ℕ → ReclaimState → Passed
passed_reclaim cpus (Head grace left) = passed_by cpus grace.before
passed_reclaim cpus (RetiredAt grace left b) = passed_by cpus grace.before
passed_reclaim cpus (Next grace left b) = passed_by cpus grace.before
passed_reclaim cpus (SetHead grace left b next) = passed_by cpus grace.before
passed_reclaim cpus (SetTail grace left b) = passed_by cpus grace.before
passed_reclaim cpus (Release grace left b) = passed_by cpus grace.before

unfoldable pub passed_in : ℕ → Phase → Passed
passed_in cpus Refuse = nobody
passed_in cpus Lock = nobody
passed_in cpus (Check s) = nobody
passed_in cpus (Obtain s) = nobody
passed_in cpus (Recycle s) = passed_recycle cpus s
passed_in cpus (Scan s) = passed_scan s
passed_in cpus (Build s) = nobody
passed_in cpus (Publish s) = nobody
passed_in cpus (Retire s) = nobody
passed_in cpus (Reclaim s) = passed_reclaim cpus s
passed_in cpus (Finish s) = nobody

unfoldable pub passed : ℕ → Work → Passed
passed cpus Idle = nobody
passed cpus (Looking l) = nobody
passed cpus (Updating j s) = passed_in cpus s
