-- A new root is late only while the holder waits for it at the second fence of Publish.
use Rattle.std.proofs.Common.{◌≡◌, ℕ, ◌≤◌, true, false, ◌⊎◌, List, refl, ap, inl, inr}
use Rattle.routes.specs.declared.update.job.Job.{Job}
use Rattle.routes.specs.declared.update.Phase.{Phase}
use Rattle.routes.specs.declared.update.Phase.TheVariants.{Refuse, Lock, Check as Checking, Obtain as Obtaining, Recycle as Recycling, Scan as Scanning, Build as Building, Publish as Publishing, Retire as Retiring, Reclaim as Reclaiming, Finish as Finishing}
use Rattle.routes.specs.declared.update.check.Check.{Check}
use Rattle.routes.specs.declared.update.check.Check.TheVariants.{Piece as AtPiece, Root as CheckRoot, Slot, Route as AtRoute, Reject}
use Rattle.routes.specs.declared.update.obtain.Obtain.{Obtain}
use Rattle.routes.specs.declared.update.obtain.Obtain.TheVariants.{Get, Undo, Full}
use Rattle.routes.specs.declared.update.recycle.Recycle.{Recycle}
use Rattle.routes.specs.declared.update.recycle.Recycle.TheVariants.{Head as OldHead, RetiredAt as OldAt, Next as OldNext, SetHead as OldSetHead, SetTail as OldSetTail}
use Rattle.routes.specs.declared.update.scan.Scan.{Scan}
use Rattle.routes.specs.declared.update.scan.Scan.TheVariants.{ForNode, ForLimit}
use Rattle.routes.specs.declared.update.build.Build.{Build}
use Rattle.routes.specs.declared.update.build.Build.TheVariants.{Root, Read, Edit, Write as ToWrite}
use Rattle.routes.specs.declared.update.publish.Publish.TheVariants.{FenceNodes, SetRoot, FenceRoot}
use Rattle.routes.specs.declared.update.retire.Retire.{Retire}
use Rattle.routes.specs.declared.update.retire.Retire.TheVariants.{Epoch, SetEpoch, SetAt, SetNext, Tail, SetHead as ToHead, Link, SetTail as ToTail, Fence}
use Rattle.routes.specs.declared.update.reclaim.Reclaim.{Reclaim}
use Rattle.routes.specs.declared.update.reclaim.Reclaim.TheVariants.{Head, RetiredAt, Next, SetHead, SetTail, Release}
use Rattle.routes.specs.declared.update.finish.Finish.{Finish}
use Rattle.routes.specs.declared.update.finish.Finish.TheVariants.{Unused, Unlock}
use Rattle.routes.specs.declared.work.Work.{Work}
use Rattle.routes.specs.declared.work.Work.TheVariants.{Idle, Lookup as Looking, Update as Updating}
use Rattle.routes.specs.Routes.{Route, Now}
use Rattle.routes.specs.Invariant.Ghosts.{Ghost}
use Rattle.routes.specs.Invariant.Holders.{Resting}
use Rattle.routes.specs.Invariant.Checking.{CheckFacts}
use Rattle.routes.specs.Invariant.Gathering.{Gathers, ObtainFacts, RecycleFacts}
use Rattle.routes.specs.Invariant.Building.{BuildFacts, Ripens, PublishFacts}
use Rattle.routes.specs.Invariant.Retiring.{Reclaims, RetireFacts, ReclaimFacts, FinishFacts}
use Rattle.routes.specs.Invariant.Writers.{Hall, ScanFacts, PhaseFacts, Writer}
use Rattle.routes.proofs.Invariant.Calm.{plain}

-- the holder waits for its new root to arrive
pub record RipeAt (g : Ghost) (o : List ℕ) (rs : List Route) (n : Now) (work : Work) : Type 0 where
  pub job : Job
  pub is : work ≡ Updating job (Publishing FenceRoot)
  pub whole : g.torn ≡ false
  pub spent : job.used ≤ job.got
  pub few : job.got ≤ 72
  pub short : job.retired ≤ 72
  pub ripens : Ripens g o rs n job

-- the row has no new root
abbrev Plain : Ghost → Type 0
Plain g = plain g.row ≡ true

module _ (v : ℕ → ℕ → ℕ) (hall : Hall) (g : Ghost) (o : List ℕ) (rs : List Route) (n : Now) (j : Job) where
  -- Where nothing is late.
  rest_plain : Resting g → Plain g
  unfolding plain
  rest_plain r = ap plain r.has.row

  -- In Check.
  check_plain : (s : Check) → CheckFacts g o rs n j s → Plain g
  unfolding CheckFacts
  check_plain (AtPiece k) f = rest_plain f.resting
  check_plain (CheckRoot k) f = rest_plain f.0.resting
  check_plain (Slot k d b) f = rest_plain f.0.resting
  check_plain (AtRoute k b) f = rest_plain f.0.resting
  check_plain (Reject why) f = rest_plain f.0

  -- Where blocks are got.
  gathers_plain : Gathers g o rs n j → Plain g
  unfolding plain
  gathers_plain r = ap plain r.gathered.has.row

  -- In Obtain.
  obtain_plain : (s : Obtain) → ObtainFacts g o rs n j s → Plain g
  unfolding ObtainFacts plain
  obtain_plain Get f = gathers_plain f
  obtain_plain Undo f = ap plain f.0.has.row
  obtain_plain Full f = ap plain f.0.has.row

  -- In Recycle.
  recycle_plain : (s : Recycle) → RecycleFacts v hall.blocks g o rs n j s → Plain g
  unfolding RecycleFacts plain
  recycle_plain OldHead f = gathers_plain f.0
  recycle_plain (OldAt b) f = gathers_plain f.0
  recycle_plain (OldNext b grace) f = gathers_plain f.0
  recycle_plain (OldSetHead b next grace) f = gathers_plain f.0
  recycle_plain OldSetTail f = ap plain f.0.has.row

  -- Where blocks are given back.
  reclaims_plain : Reclaims g o n j → Plain g
  unfolding plain
  reclaims_plain r = ap plain r.retires.has.row

  -- In Scan.
  scan_plain : (s : Scan) → ScanFacts hall g o rs n j s → Plain g
  unfolding ScanFacts
  scan_plain (ForNode q b stamp) f = gathers_plain f.gathers
  scan_plain (ForLimit q limit) f = reclaims_plain f.0

  -- In Build.
  build_plain : (s : Build) → BuildFacts v g o rs n j s → Plain g
  unfolding BuildFacts plain
  build_plain Root f = ap plain f.2.has.row
  build_plain (Read k d i b) f = ap plain f.1.equipped.has.row
  build_plain (Edit k have) f = ap plain f.1.equipped.has.row
  build_plain (ToWrite k first d i) f = ap plain f.equipped.has.row

  -- In Retire.
  retire_plain : (s : Retire) → RetireFacts v g o n j s → Plain g
  unfolding RetireFacts plain
  retire_plain Epoch f = ap plain f.0.has.row
  retire_plain (SetEpoch e) f = ap plain f.0.has.row
  retire_plain (SetAt i e) f = ap plain f.retires.has.row
  retire_plain (SetNext i e) f = ap plain f.0.retires.has.row
  retire_plain Tail f = ap plain f.retires.has.row
  retire_plain ToHead f = ap plain f.0.retires.has.row
  retire_plain (Link t) f = ap plain f.0.retires.has.row
  retire_plain ToTail f = ap plain f.0.has.row
  retire_plain Fence f = ap plain f.0.has.row

  -- In Reclaim.
  reclaim_plain : (s : Reclaim) → ReclaimFacts v g o n j s → Plain g
  unfolding ReclaimFacts plain
  reclaim_plain (Head grace left) f = reclaims_plain f
  reclaim_plain (RetiredAt grace left b) f = reclaims_plain f.0
  reclaim_plain (Next grace left b) f = reclaims_plain f.0
  reclaim_plain (SetHead grace left b next) f = reclaims_plain f.0
  reclaim_plain (SetTail grace left b) f = ap plain f.0.has.row
  reclaim_plain (Release grace left b) f = ap plain f.0.has.row

  -- In Finish.
  finish_plain : (s : Finish) → FinishFacts g o n j s → Plain g
  unfolding FinishFacts
  finish_plain Unused f = reclaims_plain f.0
  finish_plain Unlock f = reclaims_plain f.0

  -- In every phase the row has no new root, or the holder waits for it.
  phase_row : (s : Phase) → PhaseFacts v hall g o rs n j s → Plain g ⊎ RipeAt g o rs n (Updating j s)
  unfolding PhaseFacts PublishFacts plain
  phase_row Refuse f = inl (rest_plain f)
  phase_row Lock f = inl (rest_plain f)
  phase_row (Checking s) f = inl (check_plain s f)
  phase_row (Obtaining s) f = inl (obtain_plain s f)
  phase_row (Recycling s) f = inl (recycle_plain s f)
  phase_row (Scanning s) f = inl (scan_plain s f)
  phase_row (Building s) f = inl (build_plain s f)
  phase_row (Publishing FenceNodes) f = inl (ap plain f.equipped.has.row)
  phase_row (Publishing SetRoot) f = inl (ap plain f.equipped.has.row)
  phase_row (Publishing FenceRoot) f = elim f.4 [
    | inl r ↦ inr (record { job = j; is = refl; whole = f.0; spent = f.1; few = f.2; short = f.3; ripens = r })
    | inr r ↦ inl (ap plain r.has.row)
  ]
  phase_row (Retiring s) f = inl (retire_plain s f)
  phase_row (Reclaiming s) f = inl (reclaim_plain s f)
  phase_row (Finishing s) f = inl (finish_plain s f)

-- Whatever the registers are, the row has no new root, or the holder waits for it.
pub writer_row : (v : ℕ → ℕ → ℕ) (hall : Hall) (g : Ghost) (o : List ℕ) (rs : List Route) (n : Now) (work : Work) → Writer v hall g o rs n work → (plain g.row ≡ true) ⊎ RipeAt g o rs n work
unfolding Writer plain
writer_row v hall g o rs n Idle f = inl (ap plain f.has.row)
writer_row v hall g o rs n (Looking l) f = inl (ap plain f.has.row)
writer_row v hall g o rs n (Updating j s) f = phase_row v hall g o rs n j s f
