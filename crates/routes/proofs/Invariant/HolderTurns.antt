-- Any turn of the one who holds the lock, whatever its phase.
use Rattle.std.proofs.Common.{◌≡◌, ℕ, suc, true, T, List, sym, refl, subst}
use Rattle.routes.specs.declared.update.job.Job.{Job}
use Rattle.routes.specs.declared.update.finish.Finish.TheVariants.{Unused, Unlock}
use Rattle.routes.specs.declared.update.obtain.Obtain.TheVariants.{Get, Undo, Full}
use Rattle.routes.specs.declared.update.Phase.{Phase}
use Rattle.routes.specs.declared.update.Phase.TheVariants.{Refuse, Lock as AtLock, Check, Obtain, Recycle, Scan, Build, Publish, Retire, Reclaim, Finish}
use Rattle.routes.specs.declared.work.Work.TheVariants.{Update as Updating}
use Rattle.routes.specs.Memory.{Mem}
use Rattle.routes.specs.Routes.{Event, State, Run, young}
use Rattle.routes.specs.Machine.Acts.{Did}
use Rattle.routes.specs.Machine.Cpus.{work_of_update}
use Rattle.std.specs.ControlFlow.{break_value}
use Rattle.routes.specs.Machine.Updates.{update_act, update_after, update_words}
use Rattle.routes.specs.Invariant.Ghosts.{Ghost}
use Rattle.routes.specs.Invariant.Inv.{Cpus, Inv, set_cpu}
use Rattle.routes.specs.Invariant.Registers.{holds_in}
use Rattle.routes.specs.Invariant.Known.{seen_of}
use Rattle.std.proofs.lemmas.Bool.{false≢true}
use Rattle.routes.proofs.Invariant.ChangeTurns.{Leads as ChangeLeads, build_leads, publish_leads, retire_leads}
use Rattle.routes.proofs.Invariant.CheckTurns.{check_turn}
use Rattle.routes.proofs.Invariant.Fencing.{turn_later}
use Rattle.routes.proofs.Invariant.GatherTurns.{TurnOn, get_turn, undo_turn, recycle_turn, scan_turn, reclaim_turn, unused_turn}
use Rattle.routes.proofs.Invariant.LockTurns.{full_told_turn, done_told_turn}
use Rattle.routes.proofs.Invariant.Steps.{Turn, lock_of}
use Rattle.routes.specs.Machine.Nexts.{UpdateNext}

module _ {m : Mem} {g : Ghost} {trail : ℕ → List ℕ} {s : State} {t : ℕ} {c : Cpus} {p : ℕ} {es : List Event}
    (i : Inv m (lock_of p true) g trail s t c) (r : Run m.cpus m.blocks es s) (y : T (young (s.now' p))) (j : Job) (x : ℕ) (n : Mem) where
  -- the turn that leads to this, with these own words
  abbrev Leads : List ℕ → UpdateNext → Type 0
  Leads own next = Turn n (suc t) (set_cpu p (work_of_update next) own c) m.cpus m.blocks (seen_of p (break_value next) es) p s

  -- A turn that goes on tells nothing.
  goes_on : (own : List ℕ) (next : UpdateNext) → TurnOn t c p s own next m.cpus m.blocks es n → Leads own next
  goes_on own next k = turn_later (subst (λ a. Turn n t (set_cpu p (work_of_update next) own c) m.cpus m.blocks (seen_of p a es) p s) (sym k.untold) k.turn)

  -- So does one of Build, Publish and Retire.
  leads_on : (ph : Phase) → ChangeLeads t c p m.cpus m.cpus m.blocks es s j ph x n → Leads (update_words j ph (c.own p) x) (update_after m.cpus j ph (c.own p) x)
  leads_on ph k = subst (λ a. Turn n (suc t) (set_cpu p (work_of_update (update_after m.cpus j ph (c.own p) x)) (update_words j ph (c.own p) x) c) m.cpus m.blocks (seen_of p a es) p s) (sym k.untold) k.turn

  -- Whatever the phase.
  pub holder_turn : (ph : Phase) → holds_in ph ≡ true → c.work p ≡ Updating j ph → Did p (update_act p j ph (c.own p)) m x n →
      Leads (update_words j ph (c.own p) x) (update_after m.cpus j ph (c.own p) x)
  unfolding holds_in
  holder_turn Refuse h e d = absurd (false≢true h)
  holder_turn AtLock h e d = absurd (false≢true h)
  holder_turn (Check k) h e d = turn_later (check_turn j k x i r y e d)
  holder_turn (Obtain Get) h e d = goes_on _ _ (get_turn i r y j x n e d)
  holder_turn (Obtain Undo) h e d = goes_on _ _ (undo_turn i r y j x n e d)
  holder_turn (Obtain Full) h e d = turn_later (full_told_turn i r y j x e d)
  holder_turn (Recycle k) h e d = goes_on _ _ (recycle_turn i r y j refl k x n e d)
  holder_turn (Scan k) h e d = goes_on _ _ (scan_turn i r y j k x n e d)
  holder_turn (Build k) h e d = leads_on (Build k) (build_leads i r y j x n k e d)
  holder_turn (Publish k) h e d = leads_on (Publish k) (publish_leads i r y j x n k e d)
  holder_turn (Retire k) h e d = leads_on (Retire k) (retire_leads i r y j x n k e d)
  holder_turn (Reclaim k) h e d = goes_on _ _ (reclaim_turn i r y j k x n e d)
  holder_turn (Finish Unused) h e d = goes_on _ _ (unused_turn i r y j x n e d)
  holder_turn (Finish Unlock) h e d = turn_later (done_told_turn i r y j x e d)
