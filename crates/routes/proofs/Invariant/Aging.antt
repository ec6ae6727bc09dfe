-- What the holder's registers say of its change is not changed by its age.
use Rattle.std.proofs.Common.{ℕ, List, inl, inr}
use Rattle.routes.specs.declared.Answer.TheVariants.{Done, Full as FullAnswer, No}
use Rattle.routes.specs.declared.Piece.{Piece}
use Rattle.routes.specs.declared.update.job.Job.{Job}
use Rattle.routes.specs.declared.update.Phase.{Phase}
use Rattle.routes.specs.declared.update.Phase.TheVariants.{Refuse, Lock, Check as Checking, Obtain as Obtaining, Recycle as Recycling, Scan as Scanning, Build as Building, Publish as Publishing, Retire as Retiring, Reclaim as Reclaiming, Finish as Finishing}
use Rattle.routes.specs.declared.update.check.Check.{Check}
use Rattle.routes.specs.declared.update.check.Check.TheVariants.{Piece as AtPiece, Root as CheckRoot, Slot, Route as AtRoute, Reject}
use Rattle.routes.specs.declared.update.obtain.Obtain.{Obtain}
use Rattle.routes.specs.declared.update.obtain.Obtain.TheVariants.{Get, Undo, Full}
use Rattle.routes.specs.declared.update.recycle.Recycle.{Recycle}
use Rattle.routes.specs.declared.update.recycle.Recycle.TheVariants.{Head as OldHead, RetiredAt as OldAt, Next as OldNext, SetHead as OldSetHead, SetTail as OldSetTail}
use Rattle.routes.specs.declared.update.scan.Scan.{Scan}
use Rattle.routes.specs.declared.update.scan.Scan.TheVariants.{ForNode, ForLimit}
use Rattle.routes.specs.declared.update.build.Build.{Build}
use Rattle.routes.specs.declared.update.build.Build.TheVariants.{Root, Read, Edit, Write as ToWrite}
use Rattle.routes.specs.declared.update.publish.Publish.{Publish}
use Rattle.routes.specs.declared.update.publish.Publish.TheVariants.{FenceNodes, SetRoot, FenceRoot}
use Rattle.routes.specs.declared.update.retire.Retire.{Retire}
use Rattle.routes.specs.declared.update.retire.Retire.TheVariants.{Epoch, SetEpoch, SetAt, SetNext, Tail, SetHead as ToHead, Link, SetTail as ToTail, Fence}
use Rattle.routes.specs.declared.update.reclaim.Reclaim.{Reclaim}
use Rattle.routes.specs.declared.update.reclaim.Reclaim.TheVariants.{Head, RetiredAt, Next, SetHead, SetTail, Release}
use Rattle.routes.specs.declared.update.finish.Finish.{Finish}
use Rattle.routes.specs.declared.update.finish.Finish.TheVariants.{Unused, Unlock}
use Rattle.routes.specs.Refusals.{number_of}
use Rattle.routes.specs.Routes.{Route, Now}
use Rattle.routes.specs.Tree.Trees.{Tree}
use Rattle.routes.specs.Invariant.Ghosts.{Ghost, Row}
use Rattle.routes.specs.Invariant.Checking.{Checked, CheckFacts}
use Rattle.routes.specs.Invariant.Gathering.{Gathered, Gathers, Undoes, ObtainFacts, RecycleFacts}
use Rattle.routes.specs.Invariant.Building.{Equipped, Staged, Writes, BuildFacts, Published, Ripens, Landed, PublishFacts}
use Rattle.routes.specs.Invariant.Retiring.{Retires, Joins, Stamps, Reclaims, RetireFacts, ReclaimFacts, FinishFacts}
use Rattle.routes.specs.Invariant.Writers.{Hall, ScanFacts, PhaseFacts}
use Rattle.routes.proofs.Invariant.Alike.{Saying}

module _ (v : ℕ → ℕ → ℕ) (hall : Hall) (g : Ghost) (o : List ℕ) (rs : List Route) (n n' : Now) (j : Job) (w : Saying n n') where
  -- Checked pieces stay so.
  checked_on : {k : ℕ} → Checked g o rs n j k → Checked g o rs n' j k
  checked_on c = record { resting = c.resting; ps = c.ps; awaits = w.awaits c.ps c.awaits; pending = c.pending; here = c.here; passes = c.passes; need = c.need; got = c.got; used = c.used; retired = c.retired }

  -- The facts of Check.
  check_on : (s : Check) → CheckFacts g o rs n j s → CheckFacts g o rs n' j s
  unfolding CheckFacts
  check_on (AtPiece k) f = checked_on f
  check_on (CheckRoot k) f = (checked_on f.0, f.1)
  check_on (Slot k d b) f = (checked_on f.0, f.1, f.2, f.3)
  check_on (AtRoute k b) f = (checked_on f.0, f.1, f.2)
  check_on (Reject why) f = (f.0, w.settled (No (number_of why)) f.1)

  -- Blocks that are got stay so.
  gathered_on : Gathered g o rs n j → Gathered g o rs n' j
  gathered_on c = record { has = c.has; ps = c.ps; qs = c.qs; awaits = w.awaits c.ps c.awaits; sure = c.sure; enough = c.enough; used = c.used; retired = c.retired }

  -- So it is where one more is wanted.
  gathers_on : Gathers g o rs n j → Gathers g o rs n' j
  gathers_on c = record { gathered = gathered_on c.gathered; whole = c.whole; wants' = c.wants' }

  -- So it is where there is no room.
  undoes_on : Undoes g o n j → Undoes g o n' j
  undoes_on c = record { has = c.has; whole = c.whole; full = w.settled FullAnswer c.full; few = c.few }

  -- The facts of Obtain.
  obtain_on : (s : Obtain) → ObtainFacts g o rs n j s → ObtainFacts g o rs n' j s
  unfolding ObtainFacts
  obtain_on Get f = gathers_on f
  obtain_on Undo f = (undoes_on f.0, f.1)
  obtain_on Full f = (undoes_on f.0, f.1)

  -- The facts of Recycle.
  recycle_on : (s : Recycle) → RecycleFacts v hall.blocks g o rs n j s → RecycleFacts v hall.blocks g o rs n' j s
  unfolding RecycleFacts
  recycle_on OldHead f = (gathers_on f.0, f.1)
  recycle_on (OldAt b) f = (gathers_on f.0, f.1)
  recycle_on (OldNext b grace) f = (gathers_on f.0, f.1, f.2)
  recycle_on (OldSetHead b next grace) f = (gathers_on f.0, f.1, f.2, f.3)
  recycle_on OldSetTail f = (gathered_on f.0, f.1)

  -- Blocks and pieces of Build stay so.
  equipped_on : {row : Row} {ps : List Piece} {qs : List Route} → Equipped g o rs n j row ps qs → Equipped g o rs n' j row ps qs
  equipped_on {ps = ps} c = record { has = c.has; whole = c.whole; awaits = w.awaits ps c.awaits; sure = c.sure; all = c.all }

  -- The working tree stays so.
  staged_on : {k : ℕ} {W : Tree} → Staged v g o rs n j k W → Staged v g o rs n' j k W
  staged_on c = record { ps = c.ps; qs = c.qs; ts = c.ts; equipped = equipped_on c.equipped; here = c.here; stage = c.stage }

  -- What is being written stays so.
  writes_on : {k first d i : ℕ} → Writes v g o rs n j k first d i → Writes v g o rs n' j k first d i
  writes_on c = record {
    ps = c.ps;
    qs = c.qs;
    ts = c.ts;
    equipped = equipped_on c.equipped;
    here = c.here;
    p = c.p;
    is = c.is;
    W = c.W;
    val = c.val;
    own = c.own;
    root = c.root;
    retired = c.retired;
    have = c.have;
    fresh = c.fresh;
    stage = c.stage;
    few = c.few;
    replaced = c.replaced;
    uses = c.uses;
    write = c.write;
    deep = c.deep;
    word = c.word;
  }

  -- The facts of Build.
  build_on : (s : Build) → BuildFacts v g o rs n j s → BuildFacts v g o rs n' j s
  unfolding BuildFacts staged_on
  build_on Root f = (f.0, f.1, equipped_on f.2, f.3, f.4)
  build_on (Read k d i b) f = (f.0, staged_on f.1, f.2, f.3, f.4)
  build_on (Edit k have) f = (f.0, staged_on f.1, f.2)
  build_on (ToWrite k first d i) f = writes_on f

  -- The tree to publish stays so.
  published_on : {row : Row} → Published v g o rs n j row → Published v g o rs n' j row
  published_on c = record { ps = c.ps; qs = c.qs; W = c.W; equipped = equipped_on c.equipped; built = c.built; spent = c.spent; few = c.few }

  -- A root that has not arrived stays so.
  ripens_on : Ripens g o rs n j → Ripens g o rs n' j
  ripens_on c = record { ps = c.ps; qs = c.qs; W = c.W; row = c.row; fresh = c.fresh; awaits = w.awaits c.ps c.awaits; sure = c.sure }

  -- So does one that has.
  landed_on : Landed v g o n j → Landed v g o n' j
  landed_on c = record { has = c.has; done = w.settled Done c.done; stamps = c.stamps }

  -- The facts of Publish.
  publish_on : (s : Publish) → PublishFacts v g o rs n j s → PublishFacts v g o rs n' j s
  unfolding PublishFacts
  publish_on FenceNodes f = published_on f
  publish_on SetRoot f = published_on f
  publish_on FenceRoot f = (f.0, f.1, f.2, f.3, elim f.4 [ inl r ↦ inl (ripens_on r) | inr r ↦ inr (landed_on r) ])

  -- A change that is done stays so.
  retires_on : {row : Row} {loose : List ℕ} → Retires g o n j row loose → Retires g o n' j row loose
  retires_on c = record { has = c.has; done = w.settled Done c.done; spent = c.spent; few = c.few; short = c.short }

  -- Replaced nodes that make a chain stay so.
  joins_on : Joins v g o n j → Joins v g o n' j
  joins_on c = record { retires = retires_on c.retires; whole = c.whole; linked = c.linked; stamped = c.stamped; some = c.some }

  -- So do those that are being stamped.
  stamps_on : {i e : ℕ} → Stamps v g o n j i e → Stamps v g o n' j i e
  stamps_on c = record { retires = retires_on c.retires; whole = c.whole; stamps = c.stamps; raised = c.raised; here = c.here; linked = c.linked }

  -- The facts of Retire.
  retire_on : (s : Retire) → RetireFacts v g o n j s → RetireFacts v g o n' j s
  unfolding RetireFacts
  retire_on Epoch f = (retires_on f.0, f.1, f.2)
  retire_on (SetEpoch e) f = (retires_on f.0, f.1, f.2, f.3)
  retire_on (SetAt i e) f = stamps_on f
  retire_on (SetNext i e) f = (stamps_on f.0, f.1)
  retire_on Tail f = joins_on f
  retire_on ToHead f = (joins_on f.0, f.1)
  retire_on (Link t) f = (joins_on f.0, f.1, f.2)
  retire_on ToTail f = (retires_on f.0, f.1, f.2)
  retire_on Fence f = (retires_on f.0, f.1)

  -- What is reclaimed stays so.
  reclaims_on : Reclaims g o n j → Reclaims g o n' j
  reclaims_on c = record { retires = retires_on c.retires; whole = c.whole }

  -- The facts of Reclaim.
  reclaim_on : (s : Reclaim) → ReclaimFacts v g o n j s → ReclaimFacts v g o n' j s
  unfolding ReclaimFacts
  reclaim_on (Head grace left) f = reclaims_on f
  reclaim_on (RetiredAt grace left b) f = (reclaims_on f.0, f.1)
  reclaim_on (Next grace left b) f = (reclaims_on f.0, f.1, f.2)
  reclaim_on (SetHead grace left b next) f = (reclaims_on f.0, f.1, f.2, f.3)
  reclaim_on (SetTail grace left b) f = (retires_on f.0, f.1, f.2)
  reclaim_on (Release grace left b) f = (retires_on f.0, f.1, f.2)

  -- The facts of Scan.
  scan_on : (s : Scan) → ScanFacts hall g o rs n j s → ScanFacts hall g o rs n' j s
  unfolding ScanFacts
  scan_on (ForNode q b stamp) f = record { gathers = gathers_on f.gathers; oldest = f.oldest; stamped = f.stamped; here = f.here }
  scan_on (ForLimit q limit) f = (reclaims_on f.0, f.1)

  -- The facts of Finish.
  finish_on : (s : Finish) → FinishFacts g o n j s → FinishFacts g o n' j s
  unfolding FinishFacts
  finish_on Unused f = (reclaims_on f.0, f.1)
  finish_on Unlock f = (reclaims_on f.0, f.1)

  -- The facts of every phase.
  pub phase_on : (s : Phase) → PhaseFacts v hall g o rs n j s → PhaseFacts v hall g o rs n' j s
  unfolding PhaseFacts
  phase_on Refuse f = f
  phase_on Lock f = f
  phase_on (Checking s) f = check_on s f
  phase_on (Obtaining s) f = obtain_on s f
  phase_on (Recycling s) f = recycle_on s f
  phase_on (Scanning s) f = scan_on s f
  phase_on (Building s) f = build_on s f
  phase_on (Publishing s) f = publish_on s f
  phase_on (Retiring s) f = retire_on s f
  phase_on (Reclaiming s) f = reclaim_on s f
  phase_on (Finishing s) f = finish_on s f
