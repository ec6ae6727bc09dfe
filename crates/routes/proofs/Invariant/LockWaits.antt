-- An update that finds the lock taken tries again, and must wait.
use Rattle.std.proofs.Common.{◌≡◌, ℕ, suc, ◌+◌, ◌<◌, true, false, cond, ◌&&◌, T, eqb, List, ◌∷◌, sym, refl, ap, ◌∙◌, subst, inl, arith}
use Rattle.std.proofs.lemmas.Bool.{false≢true, eq-eqb, ne_eqb}
use Rattle.routes.specs.declared.update.job.Job.{Job}
use Rattle.routes.specs.declared.update.Phase.{Phase}
use Rattle.routes.specs.declared.update.Phase.TheVariants.{Lock as AtLock}
use Rattle.routes.specs.declared.work.Work.TheVariants.{Idle, Update as Updating}
use Rattle.routes.specs.Memory.{Mem, fenced, swapped, counted}
use Rattle.routes.specs.Routes.{Event, Turned, State, Run, young, older, must_wait}
use Rattle.routes.specs.Run.Steps.{turned_at}
use Rattle.routes.specs.Invariant.Ghosts.{Ghost}
use Rattle.routes.specs.Invariant.Readers.{Awaits, Updates, Does, Reader}
use Rattle.routes.specs.Invariant.Registers.{holds, holds_in}
use Rattle.routes.specs.Invariant.Inv.{Lock, Cpus, Inv, set_cpu}
use Rattle.routes.proofs.Late.Fence.{swap_none, swap_reply}
use Rattle.routes.proofs.Run.Leads.{leader_waits}
use Rattle.routes.proofs.Run.Steps.{now_own, now_other}
use Rattle.routes.proofs.Invariant.Alike.{alike_same, alike_hidden, saying_older}
use Rattle.routes.proofs.Invariant.Local.{quiet_late, local_inv}
use Rattle.routes.proofs.Invariant.Lookups.{touch_none}
use Rattle.routes.proofs.Invariant.Steps.{Turn, turn_on, busy_small}

module _ {m : Mem} {k : Lock} {g : Ghost} {trail : ℕ → List ℕ} {s : State} {t : ℕ} {c : Cpus} {p : ℕ} {j : Job} {ph : Phase} (i : Inv m k g trail s t c) (e : c.work p ≡ Updating j ph) where
  -- Who has an update is a processor that there is.
  pub update_small : p < m.cpus
  update_small = busy_small i p (λ z. let y : Updating j ph ≡ Idle = sym e ∙ z in let x : ◌≡◌ {A = ℕ} 0 1 = cc in absurd (omega arith))

  -- What is known of it.
  pub update_reads : Reader m g (trail p) p (Updating j ph) (c.own p) (s.now' p)
  update_reads = subst (λ w. Reader m g (trail p) p w (c.own p) (s.now' p)) e (i.readers p)

  -- A phase without the lock leaves the lock alone.
  pub update_free : holds_in ph ≡ false → holds (c.work p) ≡ false
  unfolding holds
  update_free h = ap holds e ∙ h

  -- Without the lock a swap of WRITER sees who has it.
  pub lock_reply : holds_in ph ≡ false → (fenced p m).val 0 0 ≡ cond k.held (suc k.who) 0
  lock_reply h = swap_reply p 0 0 m (quiet_late p i (update_free h)) ∙ i.core.writer

module _ {m : Mem} {k : Lock} {g : Ghost} {trail : ℕ → List ℕ} {s : State} {t : ℕ} {c : Cpus} {cpus blocks : ℕ} {es : List Event} (p : ℕ) (i : Inv m k g trail s t c) (r : Run cpus blocks es s) (y : T (young (s.now' p))) where
  -- Another has the lock: all stays as it is.
  pub lock_waits : (j : Job) → c.work p ≡ Updating j AtLock → k.held ≡ true → Turn (counted (swapped p 0 0 0 (p + 1) m)) t (set_cpu p (Updating j AtLock) (c.own p) c) cpus blocks (Turned p ∷ es) p s
  unfolding holds holds_in Does Updates
  lock_waits j e h = rw none (turn_on (alike_hidden (alike_same p s)) r y (local_inv i (record {
    touches = touch_none m p;
    table = refl;
    lead = refl;
    nows = λ q ne. now_other p q _ s.table s ne;
    free = update_free i e refl;
    free' = refl;
    small = update_small i e;
    room = i.room p (update_small i e);
    reader = record { active = l.active; old = l.old; does = (l.does.0, (u.0, waits, u.2, u.3)); safe = l.safe; clear = l.clear };
    near = λ b v. inl v;
  })))
    where
      l : Reader m g (trail p) p (Updating j AtLock) (c.own p) (s.now' p)
      l = update_reads i e

      u : Updates (c.own p) j AtLock (s.now' p)
      u = l.does.1

      waits : Awaits u.0 ((turned_at cpus p s).now' p)
      waits = subst (Awaits u.0) (sym (now_own p (older (must_wait cpus p s) (s.now' p)) s.table s)) ((saying_older (must_wait cpus p s) (s.now' p)).awaits u.0 u.1)

      taken : m.val 0 0 ≡ suc k.who
      taken = i.core.writer ∙ rw h refl

      none : swapped p 0 0 0 (p + 1) m ≡ m
      none = swap_none p 0 0 0 (p + 1) m (quiet_late p i (update_free i e refl)) ∙ rw (ne_eqb (m.val 0 0) 0 (λ z. omega (arith, taken))) refl

  -- Such a turn does not count.
  pub lock_must_wait : (j : Job) → c.work p ≡ Updating j AtLock → k.held ≡ true → cpus ≡ m.cpus → must_wait cpus p s ≡ true
  unfolding holds holds_in
  lock_must_wait j e h same = leader_waits cpus p k.who s (rw same small) other (i.leads k.who ∙ leads)
    where
      leads : (k.held && eqb k.who k.who) ≡ true
      leads = rw (h, eq-eqb k.who k.who refl) refl

      small : k.who < m.cpus
      small = busy_small i k.who (λ z. false≢true (sym (ap holds z) ∙ (i.holding k.who ∙ leads)))

      other : k.who ≡ p → ⊥
      other z = false≢true (sym (update_free i e refl) ∙ (ap (λ q. holds (c.work q)) (sym z) ∙ (i.holding k.who ∙ leads)))
