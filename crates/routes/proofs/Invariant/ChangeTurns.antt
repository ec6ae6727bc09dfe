-- An update from Build to Retire: its turns may be taken, and keep the invariant.
use Rattle.std.proofs.Common.{◌≡◌, ℕ, suc, ◌^◌, ◌<◌, true, T, List, ◌∷◌, None}
use Rattle.routes.specs.declared.update.job.Job.{Job}
use Rattle.routes.specs.declared.update.build.Build.{Build}
use Rattle.routes.specs.declared.update.publish.Publish.{Publish}
use Rattle.routes.specs.declared.update.retire.Retire.{Retire}
use Rattle.routes.specs.declared.update.Phase.{Phase}
use Rattle.routes.specs.declared.update.Phase.TheVariants.{Build as InBuild, Publish as InPublish, Retire as InRetire}
use Rattle.routes.specs.declared.work.Work.TheVariants.{Update as Updating}
use Rattle.routes.specs.Memory.{Mem}
use Rattle.routes.specs.Routes.{Event, Turned, State, Run, young}
use Rattle.routes.specs.Machine.Acts.{Did}
use Rattle.routes.specs.Machine.Cpus.{work_of_update}
use Rattle.std.specs.ControlFlow.{break_value}
use Rattle.routes.specs.Machine.Updates.{update_act, update_after, update_words, UpdateReady}
use Rattle.routes.specs.Invariant.Ghosts.{Ghost}
use Rattle.routes.specs.Invariant.Inv.{Cpus, Inv, set_cpu}
use Rattle.routes.specs.Invariant.Writers.{PhaseFacts}
use Rattle.routes.proofs.Invariant.BuildReady.{build_ready}
use Rattle.routes.proofs.Invariant.BuildTurns.{build_turn}
use Rattle.routes.proofs.Invariant.Holding.{holder_facts, holder_room, holder_small}
use Rattle.routes.proofs.Invariant.PublishReady.{publish_ready}
use Rattle.routes.proofs.Invariant.PublishTurns.{publish_turn}
use Rattle.routes.proofs.Invariant.RetireReady.{retire_ready}
use Rattle.routes.proofs.Invariant.RetireTurns.{retire_turn}
use Rattle.routes.proofs.Invariant.Steps.{lock_of, Turn}
use Rattle.routes.proofs.Invariant.Taking.{takes_turn, takes_untold}
use Rattle.routes.proofs.Invariant.Touching.{MayAsk}

-- p holds the lock, in a phase of its update
module _ {m : Mem} {g : Ghost} {trail : ℕ → List ℕ} {s : State} {t : ℕ} {c : Cpus} {p : ℕ} (i : Inv m (lock_of p true) g trail s t c) (once : 0 < m.left) (mine : p ≡ m.who) (j : Job) where
  -- It may ask in this turn.
  asks : MayAsk m p
  asks = record { once = once; turn = mine; inside = holder_small i }

  -- A turn of Build may be taken.
  pub build_may_turn : (st : Build) → c.work p ≡ Updating j (InBuild st) → UpdateReady m p j (InBuild st) (c.own p)
  unfolding PhaseFacts
  build_may_turn st e = build_ready m p true g s.table t i.core asks (c.own p) (s.now' p) j (holder_room i) st (holder_facts i j (InBuild st) e)

  -- A turn of Publish may.
  pub publish_may_turn : (st : Publish) → UpdateReady m p j (InPublish st) (c.own p)
  publish_may_turn st = publish_ready m p true g s.table t i.core asks j st (c.own p) (holder_room i)

  -- A turn of Retire may, as long as there are not too many.
  pub retire_may_turn : suc t < 2 ^ 64 → (st : Retire) → c.work p ≡ Updating j (InRetire st) → UpdateReady m p j (InRetire st) (c.own p)
  unfolding PhaseFacts
  retire_may_turn few st e = retire_ready m p true g s.table t i.core (c.own p) (s.now' p) j few asks (holder_room i) st (holder_facts i j (InRetire st) e)

-- what a turn in a phase leads to, by the reply: nothing is told, and the invariant holds of the registers and own words that come next
pub record Leads (t : ℕ) (c : Cpus) (p cpus' cpus blocks : ℕ) (es : List Event) (s : State) (j : Job) (ph : Phase) (x : ℕ) (n : Mem) : Type 0 where
  pub turn : Turn n (suc t) (set_cpu p (work_of_update (update_after cpus' j ph (c.own p) x)) (update_words j ph (c.own p) x) c) cpus blocks (Turned p ∷ es) p s
  pub untold : break_value (update_after cpus' j ph (c.own p) x) ≡ None

module _ {m : Mem} {g : Ghost} {trail : ℕ → List ℕ} {s : State} {t : ℕ} {c : Cpus} {p cpus blocks : ℕ} {es : List Event}
    (i : Inv m (lock_of p true) g trail s t c) (r : Run cpus blocks es s) (y : T (young (s.now' p))) (j : Job) (x : ℕ) (n : Mem) where
  -- A turn of Build.
  pub build_leads : (st : Build) → c.work p ≡ Updating j (InBuild st) → Did p (update_act p j (InBuild st) (c.own p)) m x n → Leads t c p m.cpus cpus blocks es s j (InBuild st) x n
  build_leads st e d = let k = build_turn i r y j st e x n d in record { turn = takes_turn k; untold = takes_untold k }

  -- A turn of Publish.
  pub publish_leads : (st : Publish) → c.work p ≡ Updating j (InPublish st) → Did p (update_act p j (InPublish st) (c.own p)) m x n → Leads t c p m.cpus cpus blocks es s j (InPublish st) x n
  publish_leads st e d = let k = publish_turn i r y j st e x n d in record { turn = takes_turn k; untold = takes_untold k }

  -- A turn of Retire.
  pub retire_leads : (st : Retire) → c.work p ≡ Updating j (InRetire st) → Did p (update_act p j (InRetire st) (c.own p)) m x n → Leads t c p m.cpus cpus blocks es s j (InRetire st) x n
  retire_leads st e d = let k = retire_turn i r y j st e x n d in record { turn = takes_turn k; untold = takes_untold k }
