-- What was seen after a turn can be explained, and so can what was seen before its last event.
use Rattle.std.proofs.Common.{ℕ, List, [], ◌∷◌}
use Rattle.routes.specs.Memory.{Mem}
use Rattle.routes.specs.Routes.{Event, State, Run, begin, asks, finds, changes, full, leads, leads_still, turns, tells, Explained}
use Rattle.routes.specs.Invariant.Inv.{Cpus}
use Rattle.routes.proofs.Invariant.Steps.{Turn}

-- all but the last event can be explained
unfoldable pub Before : ℕ → ℕ → List Event → Type 0
Before cpus blocks [] = Unit {0}
Before cpus blocks (e ∷ es) = Explained cpus blocks es

-- What is seen in a run could be seen before its last event.
pub run_before : {cpus blocks : ℕ} {es : List Event} {s : State} → Run cpus blocks es s → Before cpus blocks es
unfolding Before
run_before begin = tt
run_before (asks {s = s} p k ps r l e) = (s, r)
run_before (finds p r e) = run_before r
run_before (changes p r e) = run_before r
run_before (full p r e c f) = run_before r
run_before (leads p r e l) = run_before r
run_before (leads_still p r e l) = run_before r
run_before (turns {s = s} p r y) = (s, r)
run_before (tells {s = s} p r e) = (s, r)

module _ {m : Mem} {t : ℕ} {c : Cpus} {cpus blocks p : ℕ} {s : State} where
  -- A turn can be explained.
  pub turn_explained : {es : List Event} → Turn m t c cpus blocks es p s → Explained cpus blocks es
  turn_explained u = (u.state, u.run)

  -- So can it without what it tells.
  pub told_explained : {e : Event} {es : List Event} → Turn m t c cpus blocks (e ∷ es) p s → Explained cpus blocks es
  unfolding Before
  told_explained u = run_before u.run
