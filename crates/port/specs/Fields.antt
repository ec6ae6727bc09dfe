-- What is under way, by plain numbers.
-- Assumes nothing.
use Rattle.std.specs.Prelude.{ℕ, cond, Some, None, Option, ◌==◌, option_map, option_and_then}
use Rattle.routes.specs.declared.Answer.{Answer}
use Rattle.routes.specs.declared.Answer.TheVariants.{Found, Nothing, Done, Full as FullAnswer, No}
use Rattle.routes.specs.declared.refusal.Refusal.{Refusal}
use Rattle.routes.specs.declared.refusal.Refusal.TheVariants.{PieceCount, UncleanPrefix, AbsentRoute}
use Rattle.routes.specs.declared.lookup.Lookup.{Lookup}
use Rattle.routes.specs.declared.lookup.Lookup.TheVariants as look
use Rattle.routes.specs.declared.update.build.Build.{Build as BuildState}
use Rattle.routes.specs.declared.update.build.Build.TheVariants as build
use Rattle.routes.specs.declared.update.check.Check.{Check as CheckState}
use Rattle.routes.specs.declared.update.check.Check.TheVariants as check
use Rattle.routes.specs.declared.update.finish.Finish.{Finish as FinishState}
use Rattle.routes.specs.declared.update.finish.Finish.TheVariants as finish
use Rattle.routes.specs.declared.update.obtain.Obtain.{Obtain as ObtainState}
use Rattle.routes.specs.declared.update.obtain.Obtain.TheVariants as obtain
use Rattle.routes.specs.declared.update.publish.Publish.{Publish as PublishState}
use Rattle.routes.specs.declared.update.publish.Publish.TheVariants as publish
use Rattle.routes.specs.declared.update.reclaim.Reclaim.{Reclaim as ReclaimState}
use Rattle.routes.specs.declared.update.reclaim.Reclaim.TheVariants as reclaim
use Rattle.routes.specs.declared.update.recycle.Recycle.{Recycle as RecycleState}
use Rattle.routes.specs.declared.update.recycle.Recycle.TheVariants as recycle
use Rattle.routes.specs.declared.update.retire.Retire.{Retire as RetireState}
use Rattle.routes.specs.declared.update.retire.Retire.TheVariants as retire
use Rattle.routes.specs.declared.update.scan.Scan.{Scan as ScanState}
use Rattle.routes.specs.declared.update.scan.Scan.TheVariants as scan
use Rattle.routes.specs.declared.update.Phase.{Phase}
use Rattle.routes.specs.declared.update.Phase.TheVariants.{Refuse, Lock, Check, Obtain, Recycle, Scan, Build, Publish, Retire, Reclaim, Finish}
use Rattle.routes.specs.declared.work.Work.{Work}
use Rattle.routes.specs.declared.work.Work.TheVariants.{Idle, Lookup as Looking, Update}
use Rattle.routes.specs.Machine.Scans.{grace}
use Rattle.port.specs.declared.fields.AnswerWords.{AnswerWords}
use Rattle.port.specs.declared.fields.Fields.{Fields}
use Rattle.port.specs.declared.fields.Registers.{Registers}

-- one of some values by its number
abbrev pub case' : {A : Type 0} → ℕ → ℕ → A → Option A → Option A
case' n k a rest = cond (n == k) (Some a) rest

abbrev pub answer_of : AnswerWords → Option Answer
answer_of w =
    case' w.kind 1 (Found w.len w.tells) (case' w.kind 2 Nothing (case' w.kind 3 Done (case' w.kind 4 FullAnswer (case' w.kind 5 (No w.len) None))))

-- a state of this number, with nothing in its fields
abbrev pub in_state : ℕ → Fields
in_state n = record { state = n; epoch = 0; index = 0; node = 0; next = 0; level = 0; word = 0; first = 0; best = record { kind = 2; len = 0; tells = 0 } }

abbrev pub refusal_of : ℕ → Option Refusal
refusal_of n = case' n 1 PieceCount (case' n 2 UncleanPrefix (case' n 3 AbsentRoute None))

abbrev pub lookup_at : Fields → Answer → Option Lookup
lookup_at f best =
    case' f.state 0 (look.Epoch f.index) (case' f.state 1 (look.Announce f.index f.epoch) (case' f.state 2 (look.Root f.index f.epoch)
    (case' f.state 3 (look.Node f.index f.epoch f.level f.node best) (case' f.state 4 (look.Leave f.epoch best) None))))

abbrev pub lookup_of : Fields → Option Lookup
lookup_of f = option_and_then (lookup_at f) (answer_of f.best)

abbrev pub check_of : Fields → Option CheckState
check_of f =
    case' f.state 0 (check.Piece f.index) (case' f.state 1 (check.Root f.index) (case' f.state 2 (check.Slot f.index f.level f.node)
    (case' f.state 3 (check.Route f.index f.node) (cond (f.state == 4) (option_map check.Reject (refusal_of f.index)) None))))

abbrev pub obtain_of : Fields → Option ObtainState
obtain_of f = case' f.state 0 obtain.Get (case' f.state 1 obtain.Undo (case' f.state 2 obtain.Full None))

abbrev pub recycle_of : Fields → Option RecycleState
recycle_of f =
    case' f.state 0 recycle.Head (case' f.state 1 (recycle.RetiredAt f.node) (case' f.state 2 (recycle.Next f.node (grace f.epoch))
    (case' f.state 3 (recycle.SetHead f.node f.next (grace f.epoch)) (case' f.state 4 recycle.SetTail None))))

abbrev pub scan_of : Fields → Option ScanState
scan_of f = case' f.state 0 (scan.ForNode f.index f.node f.epoch) (case' f.state 1 (scan.ForLimit f.index f.epoch) None)

abbrev pub build_of : Fields → Option BuildState
build_of f =
    case' f.state 0 build.Root (case' f.state 1 (build.Read f.index f.level f.word f.node) (case' f.state 2 (build.Edit f.index f.level)
    (case' f.state 3 (build.Write f.index f.first f.level f.word) None)))

abbrev pub publish_of : Fields → Option PublishState
publish_of f = case' f.state 0 publish.FenceNodes (case' f.state 1 publish.SetRoot (case' f.state 2 publish.FenceRoot None))

abbrev pub retire_of : Fields → Option RetireState
retire_of f =
    case' f.state 0 retire.Epoch (case' f.state 1 (retire.SetEpoch f.epoch) (case' f.state 2 (retire.SetAt f.index f.epoch)
    (case' f.state 3 (retire.SetNext f.index f.epoch) (case' f.state 4 retire.Tail (case' f.state 5 retire.SetHead
    (case' f.state 6 (retire.Link f.node) (case' f.state 7 retire.SetTail (case' f.state 8 retire.Fence None))))))))

abbrev pub reclaim_of : Fields → Option ReclaimState
reclaim_of f =
    case' f.state 0 (reclaim.Head (grace f.epoch) f.index) (case' f.state 1 (reclaim.RetiredAt (grace f.epoch) f.index f.node)
    (case' f.state 2 (reclaim.Next (grace f.epoch) f.index f.node) (case' f.state 3 (reclaim.SetHead (grace f.epoch) f.index f.node f.next)
    (case' f.state 4 (reclaim.SetTail (grace f.epoch) f.index f.node) (case' f.state 5 (reclaim.Release (grace f.epoch) f.index f.node) None)))))

abbrev pub finish_of : Fields → Option FinishState
finish_of f = case' f.state 0 finish.Unused (case' f.state 1 finish.Unlock None)

abbrev pub phase_of : ℕ → Fields → Option Phase
phase_of n f =
    case' n 2 Refuse (case' n 3 Lock (cond (n == 4) (option_map Check (check_of f)) (cond (n == 5) (option_map Obtain (obtain_of f))
    (cond (n == 6) (option_map Recycle (recycle_of f)) (cond (n == 7) (option_map Scan (scan_of f)) (cond (n == 8) (option_map Build (build_of f))
    (cond (n == 9) (option_map Publish (publish_of f)) (cond (n == 10) (option_map Retire (retire_of f)) (cond (n == 11) (option_map Reclaim (reclaim_of f))
    (cond (n == 12) (option_map Finish (finish_of f)) None))))))))))

abbrev pub work_of : Registers → Option Work
work_of r =
    case' r.phase 0 Idle (cond (r.phase == 1) (option_map Looking (lookup_of r.fields)) (option_map (Update r.job) (phase_of r.phase r.fields)))
