-- A processor that has something under way may take its turn.
use Rattle.std.proofs.Common.{◌≡◌, ℕ, suc, ◌^◌, ◌<◌, true, List, sym, refl, subst}
use Rattle.routes.specs.declared.update.job.Job.{Job}
use Rattle.routes.specs.declared.update.Phase.{Phase}
use Rattle.routes.specs.declared.update.Phase.TheVariants.{Refuse, Lock as AtLock, Check, Obtain, Recycle, Scan, Build, Publish, Retire, Reclaim, Finish}
use Rattle.routes.specs.declared.work.Work.{Work}
use Rattle.routes.specs.declared.work.Work.TheVariants.{Idle, Lookup as Looking, Update as Updating}
use Rattle.routes.specs.Memory.{Mem}
use Rattle.routes.specs.Routes.{State}
use Rattle.routes.specs.Machine.Cpus.{Ready}
use Rattle.routes.specs.Machine.Updates.{UpdateReady}
use Rattle.routes.specs.Invariant.Ghosts.{Ghost}
use Rattle.routes.specs.Invariant.Inv.{Lock, Cpus, Inv}
use Rattle.routes.specs.Invariant.Registers.{holds, holds_in}
use Rattle.routes.proofs.Invariant.HolderReady.{holder_ready}
use Rattle.routes.proofs.Invariant.LockTurns.{lock_ready}
use Rattle.routes.proofs.Invariant.LookupReady.{lookup_ok, lookup_may}
use Rattle.routes.proofs.Invariant.Steps.{lock_of, holder_is}

-- what p needs to take its turn, with this in its registers
abbrev ReadyFor : Mem → ℕ → List ℕ → Work → Type 0
ReadyFor m p o w = Ready m p (record { work = w }) o

module _ {m : Mem} {k : Lock} {g : Ghost} {trail : ℕ → List ℕ} {s : State} {t : ℕ} {c : Cpus} {p : ℕ}
    (i : Inv m k g trail s t c) (left : 0 < m.left) (mine : p ≡ m.who) (small : p < m.cpus) (soon : suc t < 2 ^ 64) where
  -- An update that holds the lock.
  held_turn : (j : Job) (ph : Phase) → holds_in ph ≡ true → c.work p ≡ Updating j ph → ReadyFor m p (c.own p) (Updating j ph)
  unfolding holds
  held_turn j ph h e =
      let l : k ≡ lock_of p true = holder_is i p (subst (λ w. holds w ≡ true) (sym e) h) in
      let r : UpdateReady m p j ph (c.own p) = holder_ready (subst (λ z. Inv m z g trail s t c) l i) left mine soon j ph h e in
      record { ok = r.ok; room = r.room; may = r.may }

  -- Any update.
  update_turn : (j : Job) (ph : Phase) → c.work p ≡ Updating j ph → ReadyFor m p (c.own p) (Updating j ph)
  unfolding holds_in
  update_turn j Refuse e = record { ok = tt; room = i.room p small; may = tt }
  update_turn j AtLock e = let r = lock_ready i j e left mine in record { ok = r.ok; room = r.room; may = r.may }
  update_turn j (Check x) e = held_turn j (Check x) refl e
  update_turn j (Obtain x) e = held_turn j (Obtain x) refl e
  update_turn j (Recycle x) e = held_turn j (Recycle x) refl e
  update_turn j (Scan x) e = held_turn j (Scan x) refl e
  update_turn j (Build x) e = held_turn j (Build x) refl e
  update_turn j (Publish x) e = held_turn j (Publish x) refl e
  update_turn j (Retire x) e = held_turn j (Retire x) refl e
  update_turn j (Reclaim x) e = held_turn j (Reclaim x) refl e
  update_turn j (Finish x) e = held_turn j (Finish x) refl e

  -- Whatever is under way.
  pub cpu_ready : ReadyFor m p (c.own p) (c.work p)
  cpu_ready = go (c.work p) refl
    where
      go : (w : Work) → c.work p ≡ w → ReadyFor m p (c.own p) w
      go Idle e = record { ok = tt; room = i.room p small; may = tt }
      go (Looking l) e = record { ok = lookup_ok p i l e soon; room = i.room p small; may = lookup_may p i l e (record { once = left; turn = mine; inside = small }) }
      go (Updating j ph) e = update_turn j ph e
