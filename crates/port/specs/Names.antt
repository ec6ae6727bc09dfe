-- Short names of what a processor has under way.
-- Assumes nothing.
use Rattle.std.specs.Prelude.{ℕ, List, codes}
use Rattle.routes.specs.declared.lookup.Lookup.{Lookup}
use Rattle.routes.specs.declared.lookup.Lookup.TheVariants as lookup
use Rattle.routes.specs.declared.update.check.Check.{Check}
use Rattle.routes.specs.declared.update.check.Check.TheVariants as check
use Rattle.routes.specs.declared.update.obtain.Obtain.{Obtain}
use Rattle.routes.specs.declared.update.obtain.Obtain.TheVariants as obtain
use Rattle.routes.specs.declared.update.recycle.Recycle.{Recycle}
use Rattle.routes.specs.declared.update.recycle.Recycle.TheVariants as recycle
use Rattle.routes.specs.declared.update.scan.Scan.{Scan}
use Rattle.routes.specs.declared.update.scan.Scan.TheVariants as scan
use Rattle.routes.specs.declared.update.build.Build.{Build}
use Rattle.routes.specs.declared.update.build.Build.TheVariants as build
use Rattle.routes.specs.declared.update.publish.Publish.{Publish}
use Rattle.routes.specs.declared.update.publish.Publish.TheVariants as publish
use Rattle.routes.specs.declared.update.retire.Retire.{Retire}
use Rattle.routes.specs.declared.update.retire.Retire.TheVariants as retire
use Rattle.routes.specs.declared.update.reclaim.Reclaim.{Reclaim}
use Rattle.routes.specs.declared.update.reclaim.Reclaim.TheVariants as reclaim
use Rattle.routes.specs.declared.update.finish.Finish.{Finish}
use Rattle.routes.specs.declared.update.finish.Finish.TheVariants as finish
use Rattle.routes.specs.declared.update.Phase.{Phase}
use Rattle.routes.specs.declared.update.Phase.TheVariants as phase
use Rattle.routes.specs.declared.work.Work.{Work}
use Rattle.routes.specs.declared.work.Work.TheVariants as work

abbrev pub lookup_name : Lookup → List ℕ
lookup_name (lookup.Epoch a) = codes "lookup epoch"
lookup_name (lookup.Announce a e) = codes "lookup announce"
lookup_name (lookup.Root a e) = codes "lookup root"
lookup_name (lookup.Node a e d b best) = codes "lookup node"
lookup_name (lookup.Leave e best) = codes "lookup leave"

abbrev pub check_name : Check → List ℕ
check_name (check.Piece k) = codes "check piece"
check_name (check.Root k) = codes "check root"
check_name (check.Slot k d b) = codes "check slot"
check_name (check.Route k b) = codes "check route"
check_name (check.Reject why) = codes "reject"

abbrev pub obtain_name : Obtain → List ℕ
obtain_name obtain.Get = codes "obtain"
obtain_name obtain.Undo = codes "obtain undo"
obtain_name obtain.Full = codes "obtain full"

abbrev pub recycle_name : Recycle → List ℕ
recycle_name recycle.Head = codes "recycle head"
recycle_name (recycle.RetiredAt b) = codes "recycle stamp"
recycle_name (recycle.Next b g) = codes "recycle next"
recycle_name (recycle.SetHead b n g) = codes "recycle set head"
recycle_name recycle.SetTail = codes "recycle set tail"

abbrev pub scan_name : Scan → List ℕ
scan_name (scan.ForNode q b s) = codes "scan for node"
scan_name (scan.ForLimit q l) = codes "scan for limit"

abbrev pub build_name : Build → List ℕ
build_name build.Root = codes "build root"
build_name (build.Read k d i b) = codes "build read"
build_name (build.Edit k h) = codes "build edit"
build_name (build.Write k f d i) = codes "build write"

abbrev pub publish_name : Publish → List ℕ
publish_name publish.FenceNodes = codes "publish fence nodes"
publish_name publish.SetRoot = codes "publish root"
publish_name publish.FenceRoot = codes "publish fence root"

abbrev pub retire_name : Retire → List ℕ
retire_name retire.Epoch = codes "retire epoch"
retire_name (retire.SetEpoch e) = codes "retire set epoch"
retire_name (retire.SetAt i e) = codes "retire stamp"
retire_name (retire.SetNext i e) = codes "retire set next"
retire_name retire.Tail = codes "retire tail"
retire_name retire.SetHead = codes "retire set head"
retire_name (retire.Link t) = codes "retire link"
retire_name retire.SetTail = codes "retire set tail"
retire_name retire.Fence = codes "retire fence"

abbrev pub reclaim_name : Reclaim → List ℕ
reclaim_name (reclaim.Head g n) = codes "reclaim head"
reclaim_name (reclaim.RetiredAt g n b) = codes "reclaim stamp"
reclaim_name (reclaim.Next g n b) = codes "reclaim next"
reclaim_name (reclaim.SetHead g n b m) = codes "reclaim set head"
reclaim_name (reclaim.SetTail g n b) = codes "reclaim set tail"
reclaim_name (reclaim.Release g n b) = codes "reclaim release"

abbrev pub finish_name : Finish → List ℕ
finish_name finish.Unused = codes "release unused"
finish_name finish.Unlock = codes "unlock"

abbrev pub phase_name : Phase → List ℕ
phase_name phase.Refuse = codes "refuse"
phase_name phase.Lock = codes "lock"
phase_name (phase.Check s) = check_name s
phase_name (phase.Obtain s) = obtain_name s
phase_name (phase.Recycle s) = recycle_name s
phase_name (phase.Scan s) = scan_name s
phase_name (phase.Build s) = build_name s
phase_name (phase.Publish s) = publish_name s
phase_name (phase.Retire s) = retire_name s
phase_name (phase.Reclaim s) = reclaim_name s
phase_name (phase.Finish s) = finish_name s

abbrev pub work_name : Work → List ℕ
work_name work.Idle = codes "idle"
work_name (work.Lookup l) = lookup_name l
work_name (work.Update j s) = phase_name s
