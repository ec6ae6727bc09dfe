-- A turn of the holder's update: what was asked was done, and the invariant holds of what comes next.
use Rattle.std.proofs.Common.{◌≡◌, ℕ, suc, true, T, List, ◌∷◌, length, None, sym, ap, subst, arith}
use Rattle.routes.specs.declared.update.job.Job.{Job}
use Rattle.routes.specs.declared.update.Phase.{Phase}
use Rattle.routes.specs.declared.work.Work.TheVariants.{Update as Updating}
use Rattle.routes.specs.Memory.{Mem, Arrives, set_val, stored, counted}
use Rattle.routes.specs.Routes.{Event, Turned, State, Run, young}
use Rattle.routes.specs.Machine.Cpus.{work_of_update}
use Rattle.std.specs.ControlFlow.{break_value}
use Rattle.routes.specs.Late.View.{view}
use Rattle.routes.specs.Invariant.Ghosts.{Ghost}
use Rattle.routes.specs.Invariant.Inv.{Cpus, Inv, set_cpu}
use Rattle.routes.specs.Invariant.Writers.{hall_of}
use Rattle.routes.proofs.Invariant.Alike.{alike_same}
use Rattle.routes.proofs.Invariant.Arriving.{turn_arrives}
use Rattle.routes.proofs.Invariant.Fencing.{turn_later}
use Rattle.routes.proofs.Invariant.GoingOn.{GoesOn}
use Rattle.routes.proofs.Invariant.Holding.{load_turn, pause_turn}
use Rattle.routes.proofs.Invariant.Steps.{lock_of, Turn}
use Rattle.routes.proofs.Invariant.Storing.{StoreOk, store_turn}
use Rattle.routes.specs.Machine.Nexts.{UpdateNext}
use Rattle.std.specs.declared.ops.ControlFlow.TheVariants.{Continue}

-- right after the ask memory is this, from which what is late may have arrived till n
pub record Takes (t : ℕ) (c : Cpus) (p : ℕ) (s : State) (own : List ℕ) (next : UpdateNext) (cpus blocks : ℕ) (es : List Event) (n : Mem) : Type 0 where
  pub memory : Mem
  pub arrives : Arrives memory n
  pub job : Job
  pub phase : Phase
  pub is : next ≡ Continue (job, phase)
  pub turn : Turn memory t (set_cpu p (Updating job phase) own c) cpus blocks (Turned p ∷ es) p s

module _ {m : Mem} {g : Ghost} {trail : ℕ → List ℕ} {s : State} {t : ℕ} {c : Cpus} {p cpus blocks : ℕ} {es : List Event}
    (i : Inv m (lock_of p true) g trail s t c) (r : Run cpus blocks es s) (y : T (young (s.now' p))) (n : Mem) (own : List ℕ) (room : length own ≡ 4096) (next : UpdateNext) where
  -- A load.
  pub takes_load : Arrives (counted m) n → GoesOn (view p m) (hall_of m) g own s.table (s.now' p) next → Takes t c p s own next cpus blocks es n
  takes_load a k = record {
    memory = counted m;
    arrives = a;
    job = k.job;
    phase = k.phase;
    is = k.is;
    turn = load_turn k.job k.phase own i (alike_same p s) r y k.holds' room k.facts (λ q b l. absurd (omega (arith, k.unpassed m.cpus)));
  }

  -- Nothing.
  pub takes_pause : Arrives m n → GoesOn (view p m) (hall_of m) g own s.table (s.now' p) next → Takes t c p s own next cpus blocks es n
  takes_pause a k = record {
    memory = m;
    arrives = a;
    job = k.job;
    phase = k.phase;
    is = k.is;
    turn = pause_turn k.job k.phase own i (alike_same p s) r y k.holds' room k.facts (λ q b l. absurd (omega (arith, k.unpassed m.cpus)));
  }

  -- A store.
  pub takes_store : (b w x t' : ℕ) (g' : Ghost) → Arrives (counted (stored p b w x m)) n → StoreOk m p g t' b w x g' → GoesOn (set_val b w x (view p m)) (hall_of m) g' own s.table (s.now' p) next → Takes t' c p s own next cpus blocks es n
  takes_store b w x t' g' a o k = record {
    memory = counted (stored p b w x m);
    arrives = a;
    job = k.job;
    phase = k.phase;
    is = k.is;
    turn = store_turn k.job k.phase own i (alike_same p s) r y o k.holds' room k.facts (λ q b l. absurd (omega (arith, k.unpassed m.cpus)));
  }

-- It may be said for the next turn.
pub takes_later : {t : ℕ} {c : Cpus} {p : ℕ} {s : State} {own : List ℕ} {next : UpdateNext} {cpus blocks : ℕ} {es : List Event} {n : Mem} → Takes t c p s own next cpus blocks es n → Takes (suc t) c p s own next cpus blocks es n
takes_later k = record { memory = k.memory; arrives = k.arrives; job = k.job; phase = k.phase; is = k.is; turn = turn_later k.turn }

-- Whatever arrives after it, the turn leads to the registers that come next.
pub takes_turn : {t : ℕ} {c : Cpus} {p : ℕ} {s : State} {own : List ℕ} {next : UpdateNext} {cpus blocks : ℕ} {es : List Event} {n : Mem} → Takes t c p s own next cpus blocks es n →
    Turn n t (set_cpu p (work_of_update next) own c) cpus blocks (Turned p ∷ es) p s
takes_turn {t} {c} {p} {s} {own} {cpus = cpus} {blocks = blocks} {es = es} {n = n} k =
    subst (λ z. Turn n t (set_cpu p (work_of_update z) own c) cpus blocks (Turned p ∷ es) p s) (sym k.is) (turn_arrives k.arrives k.turn)

-- And nothing is told.
pub takes_untold : {t : ℕ} {c : Cpus} {p : ℕ} {s : State} {own : List ℕ} {next : UpdateNext} {cpus blocks : ℕ} {es : List Event} {n : Mem} → Takes t c p s own next cpus blocks es n → break_value next ≡ None
takes_untold k = ap break_value k.is
