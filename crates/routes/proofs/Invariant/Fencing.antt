-- A fence of the holder is arriving, and then a turn with nothing late.
use Rattle.std.proofs.Common.{ℕ, suc, true, T, List, ◌∷◌, refl, ap, ◌∙◌, arith}
use Rattle.routes.specs.Memory.{Mem, fenced, counted}
use Rattle.routes.specs.Routes.{Now, Event, Turned, State, Run, young, is_question, limit}
use Rattle.routes.specs.Run.Nows.{limit_of, is_change}
use Rattle.routes.specs.Invariant.Ghosts.{Ghost}
use Rattle.routes.specs.Invariant.Inv.{Lock, Cpus, Inv}
use Rattle.routes.proofs.Late.Fence.{fence_arrives_lem}
use Rattle.routes.proofs.Run.Nows.{SameKind, kind_same}
use Rattle.routes.proofs.Invariant.Alike.{Hidden, Passes, same, over, young_passes, passes_age}
use Rattle.routes.proofs.Invariant.Arriving.{Still, arrives_inv}
use Rattle.routes.proofs.Invariant.Steps.{lock_of, Turn, inv_later}

-- What passes is of the same kind.
passes_kind : {a b : Now} → Passes a b → SameKind a b
unfolding is_question is_change limit_of limit
passes_kind {a} same = kind_same a
passes_kind over = record { question = refl; change = refl; limits = refl }

-- Hidden steps one after the other.
hidden_on : {p : ℕ} {a b c : State} → Hidden p a b → Hidden p b c → Hidden p a c
hidden_on x y = record {
  lead = λ q ne. y.lead q ne ∙ x.lead q ne;
  waits = y.waits ∙ x.waits;
  nows = λ q ne. y.nows q ne ∙ x.nows q ne;
  age = y.age ∙ x.age;
  kind = record { question = y.kind.question ∙ x.kind.question; change = y.kind.change ∙ x.kind.change; limits = y.kind.limits ∙ x.kind.limits };
}

-- What arrives is hidden.
pub still_hidden : {m m' : Mem} {k : Lock} {g : Ghost} {trail : ℕ → List ℕ} {s : State} {t : ℕ} {c : Cpus} {cpus blocks : ℕ} {es : List Event} (x : Still m k g trail s t c cpus blocks es m') → Hidden k.who s x.state
still_hidden {k = k} x = record { lead = λ q ne. ap (λ f. f q) x.lead; waits = x.waits; nows = x.others; kind = passes_kind (x.nows k.who); age = (passes_age (x.nows k.who)).0 }

-- A turn after hidden steps is a turn.
pub turn_hidden : {m : Mem} {t : ℕ} {c : Cpus} {cpus blocks : ℕ} {es : List Event} {p : ℕ} {s s' : State} → Hidden p s s' → Turn m t c cpus blocks es p s' → Turn m t c cpus blocks es p s
turn_hidden h u = record { lock = u.lock; ghost = u.ghost; trail = u.trail; state = u.state; run = u.run; inv = u.inv; before = u.before; hidden = hidden_on h u.hidden; middle = u.middle; ends = u.ends; nows = u.nows; waits = u.waits }

-- It may be said for the next turn.
pub turn_later : {m : Mem} {t : ℕ} {c : Cpus} {cpus blocks : ℕ} {es : List Event} {p : ℕ} {s : State} → Turn m t c cpus blocks es p s → Turn m (suc t) c cpus blocks es p s
turn_later u = record { lock = u.lock; ghost = u.ghost; trail = u.trail; state = u.state; run = u.run; inv = inv_later (omega arith) u.inv; before = u.before; hidden = u.hidden; middle = u.middle; ends = u.ends; nows = u.nows; waits = u.waits }

-- The fence: first all arrives, then the turn is taken.
pub fence_turn : {m : Mem} {g : Ghost} {trail : ℕ → List ℕ} {s : State} {t t' : ℕ} {c c' : Cpus} {p cpus blocks : ℕ} {es : List Event} → Inv m (lock_of p true) g trail s t c → Run cpus blocks es s → T (young (s.now' p)) →
    ((g' : Ghost) (s' : State) → Inv (fenced p m) (lock_of p true) g' trail s' t c → Run cpus blocks es s' → T (young (s'.now' p)) → Turn (counted (fenced p m)) t' c' cpus blocks (Turned p ∷ es) p s') →
    Turn (counted (fenced p m)) t' c' cpus blocks (Turned p ∷ es) p s
fence_turn {m = m} {p = p} i r y next =
    let x = arrives_inv (fence_arrives_lem p m) i r in
    turn_hidden (still_hidden x) (next x.ghost x.state x.inv x.run (young_passes (x.nows p) y))
