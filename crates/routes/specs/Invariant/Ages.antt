-- Ages: how many turns that count what is under way may still have.
-- Assumes nothing.
use Rattle.std.specs.Prelude.{◌≡◌, ℕ, suc, ◌+◌, ◌-◌, ◌*◌, ◌<◌, ◌≤◌, Bool, true, false, not, ◌&&◌, List, ◌==◌, ◌≢◌, nat_le}
use Rattle.routes.specs.declared.lookup.Lookup.TheVariants.{Epoch as AtEpoch}
use Rattle.routes.specs.declared.update.job.Job.{Job}
use Rattle.routes.specs.declared.update.check.Check.{Check as CheckState}
use Rattle.routes.specs.declared.update.check.Check.TheVariants.{Piece, Root as CheckRoot, Slot, Route, Reject}
use Rattle.routes.specs.declared.update.obtain.Obtain.{Obtain as ObtainState}
use Rattle.routes.specs.declared.update.obtain.Obtain.TheVariants.{Get, Undo, Full}
use Rattle.routes.specs.declared.update.recycle.Recycle.{Recycle as RecycleState}
use Rattle.routes.specs.declared.update.recycle.Recycle.TheVariants.{Head as RecycleHead, RetiredAt as RecycleAt, Next as RecycleNext, SetHead as RecycleSetHead, SetTail as RecycleSetTail}
use Rattle.routes.specs.declared.update.scan.Scan.{Scan as ScanState}
use Rattle.routes.specs.declared.update.scan.Scan.TheVariants.{ForNode, ForLimit}
use Rattle.routes.specs.declared.update.build.Build.{Build as BuildState}
use Rattle.routes.specs.declared.update.build.Build.TheVariants.{Root as BuildRoot, Read, Edit, Write}
use Rattle.routes.specs.declared.update.publish.Publish.{Publish as PublishState}
use Rattle.routes.specs.declared.update.publish.Publish.TheVariants.{FenceNodes, SetRoot, FenceRoot}
use Rattle.routes.specs.declared.update.retire.Retire.{Retire as RetireState}
use Rattle.routes.specs.declared.update.retire.Retire.TheVariants.{Epoch, SetEpoch, SetAt, SetNext, Tail, SetHead as ToHead, Link, SetTail as ToTail, Fence}
use Rattle.routes.specs.declared.update.reclaim.Reclaim.{Reclaim as ReclaimState}
use Rattle.routes.specs.declared.update.reclaim.Reclaim.TheVariants.{Head, RetiredAt, Next, SetHead, SetTail, Release}
use Rattle.routes.specs.declared.update.finish.Finish.{Finish as FinishState}
use Rattle.routes.specs.declared.update.finish.Finish.TheVariants.{Unused, Unlock}
use Rattle.routes.specs.declared.update.Phase.{Phase}
use Rattle.routes.specs.declared.update.Phase.TheVariants.{Refuse, Lock, Check, Obtain, Recycle, Scan, Build, Publish, Retire, Reclaim, Finish}
use Rattle.routes.specs.declared.work.Work.{Work}
use Rattle.routes.specs.declared.work.Work.TheVariants.{Idle, Lookup as Looking, Update as Updating}
use Rattle.routes.specs.Routes.{Now, Quiet, State, is_question, must_wait}
use Rattle.routes.specs.Counts.Counts.{bit}
use Rattle.routes.specs.Machine.Laws.{turns_left}
use Rattle.routes.specs.Machine.Scans.{announced_before}
use Rattle.routes.specs.Run.Nows.{is_change, age_of, limit_of, in_list}
use Rattle.routes.specs.Invariant.Registers.{loaded, announced}

-- The potential of an update: turns that count, to its end at most. First those from the beginning of a phase on, by the number of processors.
abbrev pub from_retire : ℕ → ℕ
from_retire cpus = 12361 + cpus

abbrev pub from_publish : ℕ → ℕ
from_publish cpus = 12514 + cpus

abbrev pub from_build : ℕ → ℕ
from_build cpus = 16987 + cpus

-- with so many blocks still to get
unfoldable pub from_get : ℕ → ℕ → ℕ
from_get cpus more = 16987 + cpus + more * (2 * cpus + 6)

unfoldable pub pot_check : ℕ → CheckState → ℕ
pot_check cpus (Piece k) = from_get cpus 72 + 11 * (8 - k)
pot_check cpus (CheckRoot k) = from_get cpus 72 + 11 * (8 - k) - 1
pot_check cpus (Slot k d b) = from_get cpus 72 + 11 * (8 - k) - (2 + d)
pot_check cpus (Route k b) = from_get cpus 72 + 11 * (8 - k) - 10
pot_check cpus (Reject why) = 1

-- of Undo it is 1 and what was got, up to 74
unfoldable pub pot_obtain : ℕ → Job → ObtainState → ℕ
pot_obtain cpus j Get = from_get cpus (j.need - suc j.got) + (2 * cpus + 6)
pot_obtain cpus j Undo = 74 - (73 - j.got)
pot_obtain cpus j Full = 1

unfoldable pub pot_recycle : ℕ → Job → RecycleState → ℕ
pot_recycle cpus j RecycleHead = from_get cpus (j.need - suc j.got) + (2 * cpus + 5)
pot_recycle cpus j (RecycleAt b) = from_get cpus (j.need - suc j.got) + (2 * cpus + 4)
pot_recycle cpus j (RecycleNext b grace) = from_get cpus (j.need - suc j.got) + 3
pot_recycle cpus j (RecycleSetHead b next grace) = from_get cpus (j.need - suc j.got) + 2
pot_recycle cpus j RecycleSetTail = from_get cpus (j.need - j.got) + 1

-- one more if processor q is in the way of a node with that stamp, and not waited for
unfoldable pub pot_scan : ℕ → (ℕ → ℕ → Bool) → Job → ScanState → ℕ
pot_scan cpus unawaited j (ForNode q b stamp) = from_get cpus (j.need - suc j.got) + 4 + 2 * (cpus - suc q) + bit (unawaited stamp q)
pot_scan cpus unawaited j (ForLimit q limit) = 12362 + (cpus - suc q)

unfoldable pub pot_build : ℕ → BuildState → ℕ
pot_build cpus BuildRoot = from_build cpus
pot_build cpus (Read k d i b) = from_publish cpus + 559 * (7 - k) + 280 + (31 * (9 - d) - i)
pot_build cpus (Edit k have) = from_publish cpus + 559 * (7 - k) + 280
pot_build cpus (Write k first d i) = from_publish cpus + 559 * (7 - k) + (31 * (9 - d) - i)

unfoldable pub pot_publish : ℕ → PublishState → ℕ
pot_publish cpus FenceNodes = from_publish cpus
pot_publish cpus SetRoot = from_retire cpus + 152
pot_publish cpus FenceRoot = from_retire cpus + 151

unfoldable pub pot_retire : ℕ → RetireState → ℕ
pot_retire cpus Epoch = from_retire cpus + 150
pot_retire cpus (SetEpoch e) = from_retire cpus + 149
pot_retire cpus (SetAt i e) = from_retire cpus + 4 + 2 * (72 - i)
pot_retire cpus (SetNext i e) = from_retire cpus + 3 + 2 * (72 - i)
pot_retire cpus Tail = from_retire cpus + 4
pot_retire cpus ToHead = from_retire cpus + 3
pot_retire cpus (Link t) = from_retire cpus + 3
pot_retire cpus ToTail = from_retire cpus + 2
pot_retire cpus Fence = from_retire cpus + 1

unfoldable pub pot_reclaim : ReclaimState → ℕ
pot_reclaim (Head grace left) = 79 + 6 * (left - 1)
pot_reclaim (RetiredAt grace left b) = 78 + 6 * (left - 1)
pot_reclaim (Next grace left b) = 77 + 6 * (left - 1)
pot_reclaim (SetHead grace left b next) = 76 + 6 * (left - 1)
pot_reclaim (SetTail grace left b) = 75 + 6 * (left - 1)
pot_reclaim (Release grace left b) = 74 + 6 * (left - 1)

unfoldable pub pot_finish : Job → FinishState → ℕ
pot_finish j Unused = 73 - j.used
pot_finish j Unlock = 1

unfoldable pub pot_update : ℕ → (ℕ → ℕ → Bool) → Job → Phase → ℕ
pot_update cpus unawaited j Refuse = 1
pot_update cpus unawaited j Lock = from_get cpus 72 + 89
pot_update cpus unawaited j (Check s) = pot_check cpus s
pot_update cpus unawaited j (Obtain s) = pot_obtain cpus j s
pot_update cpus unawaited j (Recycle s) = pot_recycle cpus j s
pot_update cpus unawaited j (Scan s) = pot_scan cpus unawaited j s
pot_update cpus unawaited j (Build s) = pot_build cpus s
pot_update cpus unawaited j (Publish s) = pot_publish cpus s
pot_update cpus unawaited j (Retire s) = pot_retire cpus s
pot_update cpus unawaited j (Reclaim s) = pot_reclaim s
pot_update cpus unawaited j (Finish s) = pot_finish j s

-- of a lookup it is its turns to come
unfoldable pub pot : ℕ → (ℕ → ℕ → Bool) → Work → ℕ
pot cpus unawaited Idle = 0
pot cpus unawaited (Looking l) = turns_left l
pot cpus unawaited (Updating j s) = pot_update cpus unawaited j s

-- has a lookup loaded an epoch at or before the stamp of a node
unfoldable pub in_way : ℕ → Work → Bool
in_way stamp work = nat_le 1 (loaded work) && nat_le (loaded work) (suc stamp)

-- is processor q in the way of a node with that stamp, and not among those waited for
unfoldable pub unawaited_in : (ℕ → Work) → List ℕ → ℕ → ℕ → Bool
unawaited_in work waits stamp q = in_way stamp (work q) && not (in_list q waits)

-- what is left to anything under way is enough
abbrev pub Aged : ℕ → State → (ℕ → Work) → Type 0
Aged cpus s work = (q : ℕ) → age_of (s.now' q) + pot cpus (unawaited_in work (s.waits q)) (work q) ≤ limit_of (s.now' q)

-- a turn in this state that may leave the registers as they are: the lock was not free, or the scan stands where it is
unfoldable pub stays_scan : ScanState → ℕ → Bool
stays_scan (ForNode q b stamp) x = announced_before x (stamp + 1)
stays_scan (ForLimit q limit) x = false

unfoldable pub stays_update : Phase → ℕ → Bool
stays_update Refuse x = false
stays_update Lock x = not (x == 0)
stays_update (Check s) x = false
stays_update (Obtain s) x = false
stays_update (Recycle s) x = false
stays_update (Scan s) x = stays_scan s x
stays_update (Build s) x = false
stays_update (Publish s) x = false
stays_update (Retire s) x = false
stays_update (Reclaim s) x = false
stays_update (Finish s) x = false

unfoldable pub stays : Work → ℕ → Bool
stays Idle x = true
stays (Looking l) x = false
stays (Updating j s) x = stays_update s x

-- registers and what is under way are of one kind
unfoldable pub SameWork : Work → Now → Type 0
SameWork Idle n = n ≡ Quiet
SameWork (Looking l) n = is_question n ≡ true
SameWork (Updating j s) n = is_change n ≡ true

-- while a scan stands for a node, the epoch is past its stamp
abbrev pub StandsPast : ℕ → (ℕ → Work) → Type 0
StandsPast epoch work = (q r b stamp : ℕ) (j : Job) → work q ≡ Updating j (Scan (ForNode r b stamp)) → stamp < epoch

-- what a turn of p rests on, for ages: epoch is EPOCH as all see it
pub record AgeFacts (cpus p : ℕ) (s : State) (work : ℕ → Work) (epoch reply : ℕ) : Type 0 where
  pub kinds : (q : ℕ) → SameWork (work q) (s.now' q)
  pub outside : (q : ℕ) → cpus ≤ q → work q ≡ Idle
  pub past : StandsPast epoch work
  -- a lookup that loads EPOCH has it
  pub loads : (a : ℕ) → work p ≡ Looking (AtEpoch a) → reply ≡ epoch
  -- where the lock is not free, p must wait
  pub fails : (j : Job) → work p ≡ Updating j Lock → (reply ≢ 0) → must_wait cpus p s ≡ true
  -- a scan sees what is announced
  pub sees : (r b stamp : ℕ) (j : Job) → work p ≡ Updating j (Scan (ForNode r b stamp)) → reply ≡ announced (work r)
