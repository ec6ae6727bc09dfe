-- A turn after which late stores are of another kind.
use Rattle.std.proofs.Common.{◌≡◌, ℕ, Bool, true, T, List, ◌∷◌, length, refl, inl, arith}
use Rattle.routes.specs.declared.update.job.Job.{Job}
use Rattle.routes.specs.declared.update.Phase.{Phase}
use Rattle.routes.specs.declared.work.Work.TheVariants.{Update as Updating}
use Rattle.routes.specs.Memory.{Mem, counted}
use Rattle.routes.specs.Routes.{Route, Event, Turned, State, Run, young}
use Rattle.routes.specs.Late.View.{view}
use Rattle.routes.specs.Invariant.Ghosts.{Ghost, Row}
use Rattle.routes.specs.Invariant.Inv.{Cpus, Inv, set_cpu}
use Rattle.routes.specs.Invariant.Memories.{RowOk, Core}
use Rattle.routes.specs.Invariant.Registers.{holds_in, passed_in}
use Rattle.routes.specs.Invariant.Writers.{PhaseFacts, hall_of}
use Rattle.routes.proofs.Late.View.{view-counted}
use Rattle.routes.proofs.Invariant.Alike.{alike_same}
use Rattle.routes.proofs.Invariant.Holding.{core_counted, hold_turn}
use Rattle.routes.proofs.Invariant.Sights.{rowed}
use Rattle.routes.proofs.Invariant.Steps.{lock_of, Turn}

-- What holds of the memory holds with another kind of row, if the row is of that kind.
pub core_rowed : (m : Mem) (h : ℕ) (locked : Bool) (g : Ghost) (rs : List Route) (t : ℕ) (r : Row) → Core m h locked g rs t → RowOk r m h (rowed r g) (view h m 0 2) → Core m h locked (rowed r g) rs t
core_rowed m h locked g rs t r c k = record {
  sizes = c.sizes;
  others = c.others;
  row = k;
  writer = c.writer;
  root = c.root;
  repr = c.repr;
  good = c.good;
  blocks = c.blocks;
  inside = c.inside;
  sight = record { ahead = c.sight.ahead; early = c.sight.early; linked = c.sight.linked; ending = c.sight.ending; stamped = c.sight.stamped; newest = c.sight.newest };
}

-- The holder's turn, with nothing else changed.
pub rowed_turn : {m : Mem} {g : Ghost} {trail : ℕ → List ℕ} {s : State} {t : ℕ} {c : Cpus} {p cpus blocks : ℕ} {es : List Event} (r : Row) (j : Job) (ph : Phase) (own : List ℕ) →
    Inv m (lock_of p true) g trail s t c → Run cpus blocks es s → T (young (s.now' p)) → RowOk r m p (rowed r g) (view p m 0 2) →
    holds_in ph ≡ true → (passed_in m.cpus ph).many ≡ 0 → length own ≡ 4096 → PhaseFacts (view p m) (hall_of m) (rowed r g) own s.table (s.now' p) j ph →
    Turn (counted m) t (set_cpu p (Updating j ph) own c) cpus blocks (Turned p ∷ es) p s
rowed_turn {m} {g} {trail} {s} {t} {c} {p} r j ph own i run y k h u l f = hold_turn i (alike_same p s) run y (record {
  core = core_counted (core_rowed m p true g s.table t r i.core k);
  leaves = λ q. record { epochs = omega arith; active = refl; words = λ b w a z. refl; safe = λ b a z. z; clear = λ b a z. inl (z, refl) };
  cpus = refl;
  holds' = h;
  room = l;
  facts = rw (view-counted p m) f;
  scanned = λ q b z. absurd (omega (arith, u));
})
