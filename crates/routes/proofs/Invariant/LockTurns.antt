-- The turns in which the lock is got or given up, with what arrives behind them.
use Rattle.std.proofs.Common.{◌≡◌, ℕ, suc, ◌<◌, true, false, cond, T, eqb, List, ◌∷◌, refl, ap, ◌∙◌, inl, inr, arith}
use Rattle.std.proofs.lemmas.Bool.{cases_Bool, eq-eqb, ne_eqb}
use Rattle.routes.specs.declared.Answer.TheVariants.{Done, Full as FullAnswer}
use Rattle.routes.specs.declared.update.job.Job.{Job}
use Rattle.routes.specs.declared.update.finish.Finish.TheVariants.{Unlock}
use Rattle.routes.specs.declared.update.obtain.Obtain.TheVariants.{Full}
use Rattle.routes.specs.declared.update.Phase.TheVariants.{Lock as AtLock, Obtain, Finish}
use Rattle.routes.specs.declared.work.Work.TheVariants.{Idle, Update as Updating}
use Rattle.routes.specs.Memory.{Mem}
use Rattle.routes.specs.Routes.{Event, Told, Turned, State, Run, young}
use Rattle.routes.specs.Machine.Acts.{Did}
use Rattle.routes.specs.Machine.Updates.{update_act, update_after, UpdateReady}
use Rattle.routes.specs.Machine.Cpus.{work_of_update}
use Rattle.routes.specs.Invariant.Ghosts.{Ghost}
use Rattle.routes.specs.Invariant.Registers.{holds_in}
use Rattle.routes.specs.Invariant.Inv.{Lock, Cpus, Inv, set_cpu}
use Rattle.routes.proofs.Invariant.Touching.{header_touch}
use Rattle.routes.proofs.Invariant.LockWaits.{update_small, lock_reply, lock_waits}
use Rattle.routes.proofs.Invariant.Arriving.{turn_arrives}
use Rattle.routes.proofs.Invariant.Steps.{lock_of, Turn}
use Rattle.routes.proofs.Invariant.Locks.{lock_got}
use Rattle.routes.proofs.Invariant.Unlocks.{full_parts, done_parts, unlock_turn}

module _ {m : Mem} {k : Lock} {g : Ghost} {trail : ℕ → List ℕ} {s : State} {t : ℕ} {c : Cpus} {p : ℕ} (i : Inv m k g trail s t c) (j : Job) (e : c.work p ≡ Updating j AtLock) where
  -- It may try.
  pub lock_ready : 0 < m.left → p ≡ m.who → UpdateReady m p j AtLock (c.own p)
  lock_ready left turn = record { ok = tt; room = i.room p (update_small i e); may = header_touch i.core (record { once = left; turn = turn; inside = update_small i e }) 0 (omega arith) }

  module _ {cpus blocks : ℕ} {es : List Event} (r : Run cpus blocks es s) (y : T (young (s.now' p))) where
    -- The lock is tried: got if it was free, and else tried again.
    pub lock_turn : (x : ℕ) {n : Mem} → Did p (update_act p j AtLock (c.own p)) m x n →
        Turn n t (set_cpu p (work_of_update (update_after m.cpus j AtLock (c.own p) x)) (c.own p) c) cpus blocks (Turned p ∷ es) p s
    unfolding holds_in
    lock_turn x {n} d = elim (cases_Bool k.held) [
      | inl h ↦ (let z : eqb x 0 ≡ false = ne_eqb _ _ (λ w. omega (arith, reply ∙ ap (λ b. cond b (suc k.who) 0) h, w)) in rw z (turn_arrives d.1 (lock_waits p i r y j e h)))
      | inr h ↦ (let z : eqb x 0 ≡ true = eq-eqb _ _ (reply ∙ ap (λ b. cond b (suc k.who) 0) h) in rw z (turn_arrives d.1 (lock_got i h j e (update_small i e) r y)))
    ]
      where
        reply : x ≡ cond k.held (suc k.who) 0
        reply = d.0 ∙ lock_reply i e refl

module _ {m : Mem} {g : Ghost} {trail : ℕ → List ℕ} {s : State} {t : ℕ} {c : Cpus} {p cpus blocks : ℕ} {es : List Event}
    (i : Inv m (lock_of p true) g trail s t c) (r : Run cpus blocks es s) (y : T (young (s.now' p))) (j : Job) (x : ℕ) {n : Mem} where
  -- There was no room, and that is told.
  pub full_told_turn : c.work p ≡ Updating j (Obtain Full) → Did p (update_act p j (Obtain Full) (c.own p)) m x n → Turn n t (set_cpu p Idle (c.own p) c) cpus blocks (Told p FullAnswer ∷ Turned p ∷ es) p s
  full_told_turn e d = turn_arrives d.1 (unlock_turn j (Obtain Full) FullAnswer (full_parts j) i r y e)

  -- The update is done, and that is told.
  pub done_told_turn : c.work p ≡ Updating j (Finish Unlock) → Did p (update_act p j (Finish Unlock) (c.own p)) m x n → Turn n t (set_cpu p Idle (c.own p) c) cpus blocks (Told p Done ∷ Turned p ∷ es) p s
  done_told_turn e d = turn_arrives d.1 (unlock_turn j (Finish Unlock) Done (done_parts j) i r y e)
