-- An update of no pieces, or of too many, is turned away and told so in its first turn.
use Rattle.std.proofs.Common.{◌≡◌, ℕ, false, T, List, ◌∷◌, sym, refl, ◌∙◌, inl, arith}
use Rattle.routes.specs.declared.Answer.TheVariants.{No}
use Rattle.routes.specs.declared.Ask.TheVariants.{Change}
use Rattle.routes.specs.declared.update.job.Job.{Job}
use Rattle.routes.specs.declared.update.Phase.TheVariants.{Refuse}
use Rattle.routes.specs.declared.work.Work.TheVariants.{Idle, Update as Updating}
use Rattle.routes.specs.Memory.{Mem}
use Rattle.routes.specs.Routes.{Event, Told, Turned, Over, State, Run, young, limit, Wrong, changed}
use Rattle.routes.specs.Run.Steps.{settled_at, turned_at}
use Rattle.routes.specs.Invariant.Ghosts.{Ghost}
use Rattle.routes.specs.Invariant.Readers.{Updates, Does, Reader}
use Rattle.routes.specs.Invariant.Registers.{holds, holds_in, loaded, announced}
use Rattle.routes.specs.Invariant.Inv.{Lock, Cpus, Inv, set_cpu}
use Rattle.routes.proofs.Basics.Places.{set_at_same}
use Rattle.routes.proofs.Run.Make.{settle_no}
use Rattle.routes.proofs.Run.Steps.{now_own, now_other}
use Rattle.routes.proofs.Invariant.Alike.{alike_settled, alike_hidden}
use Rattle.routes.proofs.Invariant.Local.{Touches, local_inv}
use Rattle.routes.proofs.Invariant.LockWaits.{update_small, update_reads, update_free}
use Rattle.routes.proofs.Invariant.Steps.{Turn, turn_told}

-- A memory as it is.
touch_same : (m : Mem) (p : ℕ) → Touches m m p
touch_same m p = record { vals = λ b w ne. refl; held = refl; late = refl; cpus = refl; blocks = refl }

module _ {m : Mem} {k : Lock} {g : Ghost} {trail : ℕ → List ℕ} {s : State} {t : ℕ} {c : Cpus} {cpus blocks : ℕ} {es : List Event} (p : ℕ) (i : Inv m k g trail s t c) (r : Run cpus blocks es s) (y : T (young (s.now' p))) where
  -- A number of pieces that is 0 or above 8 is turned away and told in the same turn.
  pub refuse_turn : (j : Job) → c.work p ≡ Updating j Refuse → Turn m t (set_cpu p Idle (c.own p) c) cpus blocks (Told p (No 1) ∷ Turned p ∷ es) p s
  unfolding holds holds_in Does Updates announced loaded young limit
  refuse_turn j e = turn_told (Change size) (No 1) age (alike_hidden (alike_settled p (Change size) u.0 (No 1) age s u.1.2)) run young' now (local_inv i (record {
    touches = touch_same m p;
    table = refl;
    lead = set_at_same p false s.lead (i.leads p ∙ (sym (i.holding p) ∙ update_free i e refl));
    nows = λ q ne. now_other p q _ s.table (turned_at cpus p s') ne ∙ (now_other p q _ s.table s' ne ∙ now_other p q _ s.table s ne);
    free = update_free i e refl;
    free' = refl;
    small = update_small i e;
    room = i.room p (update_small i e);
    reader = record { active = l.active; old = omega arith; does = (l.does.0, now_own p _ s.table (turned_at cpus p s')); safe = l.safe; clear = λ b v w. omega arith };
    near = λ b v. inl v;
  }))
    where
      l : Reader m g (trail p) p (Updating j Refuse) (c.own p) (s.now' p)
      l = update_reads i e

      u : Updates (c.own p) j Refuse (s.now' p)
      u = l.does.1

      size : ℕ
      size = u.1.0

      age : ℕ
      age = u.1.1

      s' : State
      s' = settled_at p (Change size) (No 1) age s.table s

      wrong : changed u.0 s.table ≡ Wrong 1
      wrong = rw u.2 refl

      run : Run cpus blocks es s'
      run = settle_no r p size u.0 age 1 u.1.2 wrong

      now : s'.now' p ≡ Over (Change size) (No 1) age
      now = now_own p (Over (Change size) (No 1) age) s.table s

      young' : T (young (s'.now' p))
      young' = rw now (rw u.1.2 at y)
