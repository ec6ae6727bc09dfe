-- Any turn of a processor that has something under way.
use Rattle.std.proofs.Common.{◌≡◌, ℕ, suc, true, T, List, ◌∷◌, sym, refl, subst}
use Rattle.routes.specs.declared.Answer.TheVariants.{No}
use Rattle.routes.specs.declared.update.job.Job.{Job}
use Rattle.routes.specs.declared.update.Phase.{Phase}
use Rattle.routes.specs.declared.update.Phase.TheVariants.{Refuse, Lock as AtLock, Check, Obtain, Recycle, Scan, Build, Publish, Retire, Reclaim, Finish}
use Rattle.routes.specs.declared.work.Work.{Work}
use Rattle.routes.specs.declared.work.Work.TheVariants.{Idle, Lookup as Looking, Update as Updating}
use Rattle.routes.specs.Memory.{Mem}
use Rattle.routes.specs.Routes.{Event, Told, Turned, State, Run, young}
use Rattle.routes.specs.Machine.Acts.{Did}
use Rattle.routes.specs.Machine.Cpus.{act, work_after, words_after, told_after}
use Rattle.routes.specs.Invariant.Ghosts.{Ghost}
use Rattle.routes.specs.Invariant.Inv.{Lock, Cpus, Inv, set_cpu}
use Rattle.routes.specs.Invariant.Registers.{holds, holds_in}
use Rattle.routes.specs.Invariant.Known.{seen_of}
use Rattle.routes.proofs.Invariant.Fencing.{turn_later}
use Rattle.routes.proofs.Invariant.HolderTurns.{holder_turn}
use Rattle.routes.proofs.Invariant.LockTurns.{lock_turn}
use Rattle.routes.proofs.Invariant.Lookups.{lookup_turn}
use Rattle.routes.proofs.Invariant.Refuses.{refuse_turn}
use Rattle.routes.proofs.Invariant.Steps.{Turn, holder_is}

module _ {m : Mem} {k : Lock} {g : Ghost} {trail : ℕ → List ℕ} {s : State} {t : ℕ} {c : Cpus} {es : List Event} (p : ℕ)
    (i : Inv m k g trail s t c) (r : Run m.cpus m.blocks es s) (y : T (young (s.now' p))) (x : ℕ) (n : Mem) where
  -- the turn from what is under way, by the reply
  abbrev Goes : Work → Type 0
  Goes w = Turn n (suc t) (set_cpu p (work_after m.cpus w (c.own p) x) (words_after w (c.own p) x) c) m.cpus m.blocks (seen_of p (told_after m.cpus w (c.own p) x) es) p s

  -- An update that holds the lock.
  held_goes : (j : Job) (ph : Phase) → holds_in ph ≡ true → c.work p ≡ Updating j ph → Did p (act p (Updating j ph) (c.own p)) m x n → Goes (Updating j ph)
  unfolding holds
  held_goes j ph h e d =
      holder_turn (subst (λ z. Inv m z g trail s t c) (holder_is i p (subst (λ w. holds w ≡ true) (sym e) h)) i) r y j x n ph h e d

  -- Any update.
  update_goes : (j : Job) (ph : Phase) → c.work p ≡ Updating j ph → Did p (act p (Updating j ph) (c.own p)) m x n → Goes (Updating j ph)
  unfolding holds_in
  update_goes j Refuse e d = subst (λ z. Turn z (suc t) (set_cpu p Idle (c.own p) c) m.cpus m.blocks (Told p (No 1) ∷ Turned p ∷ es) p s) (sym d.1) (turn_later (refuse_turn p i r y j e))
  update_goes j AtLock e d = turn_later (lock_turn i j e r y x d)
  update_goes j (Check z) e d = held_goes j (Check z) refl e d
  update_goes j (Obtain z) e d = held_goes j (Obtain z) refl e d
  update_goes j (Recycle z) e d = held_goes j (Recycle z) refl e d
  update_goes j (Scan z) e d = held_goes j (Scan z) refl e d
  update_goes j (Build z) e d = held_goes j (Build z) refl e d
  update_goes j (Publish z) e d = held_goes j (Publish z) refl e d
  update_goes j (Retire z) e d = held_goes j (Retire z) refl e d
  update_goes j (Reclaim z) e d = held_goes j (Reclaim z) refl e d
  update_goes j (Finish z) e d = held_goes j (Finish z) refl e d

  -- Whatever is under way.
  pub cpu_turn : (c.work p ≡ Idle → ⊥) → Did p (act p (c.work p) (c.own p)) m x n → Goes (c.work p)
  cpu_turn busy d = go (c.work p) refl d
    where
      go : (w : Work) → c.work p ≡ w → Did p (act p w (c.own p)) m x n → Goes w
      go Idle e d = absurd (busy e)
      go (Looking l) e d = turn_later (lookup_turn p i r l x n e y d)
      go (Updating j ph) e d = update_goes j ph e d
