-- A rule for all that may be seen: what holds at the start, and is kept by each step, always holds.
use Rattle.std.proofs.Common.{◌≡◌, ℕ, ◌<◌, true, false, List, [], ◌∷◌, refl}
use Rattle.std.proofs.lemmas.Bool.{not-true}
use Rattle.routes.specs.declared.Ask.{Ask}
use Rattle.routes.specs.declared.Answer.{Answer}
use Rattle.routes.specs.declared.Piece.{Piece}
use Rattle.routes.specs.Routes.{Route, Event, Asked, Told, Turned, Quiet, Under, Over, State, fresh, leader, led, young, Run, begin, asks, finds, changes, full, leads, leads_still, turns, tells}
use Rattle.routes.specs.Run.Nows.{is_change}
use Rattle.routes.specs.Run.Steps.{asked_at, settled_at, turned_at, told_at}
use Rattle.routes.proofs.Basics.Tests.{T_true}

-- P of what was seen and of the state holds at the start, and each step keeps it; what the table becomes is left open
pub record Kept (cpus blocks : ℕ) (P : List Event → State → Type 0) : Type 0 where
  pub start : P [] fresh
  pub ask : (es : List Event) (s : State) (p : ℕ) (k : Ask) (ps : List Piece) → Run cpus blocks es s → P es s → p < cpus → s.now' p ≡ Quiet → P (Asked p k ps ∷ es) (asked_at p k ps s)
  pub settle : (es : List Event) (s : State) (p : ℕ) (k : Ask) (ps : List Piece) (g : ℕ) (a : Answer) (t : List Route) → Run cpus blocks es s → P es s → s.now' p ≡ Under k ps g → P es (settled_at p k a g t s)
  pub lead' : (es : List Event) (s : State) (p : ℕ) → Run cpus blocks es s → P es s → is_change (s.now' p) ≡ true → leader cpus p s ≡ false → P es (led p s)
  pub turn : (es : List Event) (s : State) (p : ℕ) → Run cpus blocks es s → P es s → young (s.now' p) ≡ true → P (Turned p ∷ es) (turned_at cpus p s)
  pub tell : (es : List Event) (s : State) (p : ℕ) (k : Ask) (a : Answer) (g : ℕ) → Run cpus blocks es s → P es s → s.now' p ≡ Over k a g → P (Told p a ∷ es) (told_at p s)

-- Then it always holds.
pub always : (cpus blocks : ℕ) (P : List Event → State → Type 0) → Kept cpus blocks P → {es : List Event} {s : State} → Run cpus blocks es s → P es s
unfolding is_change
always cpus blocks P h begin = h.start
always cpus blocks P h (asks {es = es} {s = s} p k ps r l e) = h.ask es s p k ps r (always cpus blocks P h r) l e
always cpus blocks P h (finds {es = es} {s = s} p r e) = h.settle es s p _ _ _ _ _ r (always cpus blocks P h r) e
always cpus blocks P h (changes {es = es} {s = s} p r e) = h.settle es s p _ _ _ _ _ r (always cpus blocks P h r) e
always cpus blocks P h (full {es = es} {s = s} p r e c t) = h.settle es s p _ _ _ _ _ r (always cpus blocks P h r) e
always cpus blocks P h (leads {es = es} {s = s} p r e l) = h.lead' es s p r (always cpus blocks P h r) (rw e refl) (not-true _ (T_true _ l))
always cpus blocks P h (leads_still {es = es} {s = s} p r e l) = h.lead' es s p r (always cpus blocks P h r) (rw e refl) (not-true _ (T_true _ l))
always cpus blocks P h (turns {es = es} {s = s} p r y) = h.turn es s p r (always cpus blocks P h r) (T_true _ y)
always cpus blocks P h (tells {es = es} {s = s} p r e) = h.tell es s p _ _ _ r (always cpus blocks P h r) e
