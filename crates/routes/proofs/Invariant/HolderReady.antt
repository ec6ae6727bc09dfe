-- The one who holds the lock may take its turn, whatever its phase.
use Rattle.std.proofs.Common.{◌≡◌, ℕ, suc, ◌^◌, ◌<◌, true, List, arith}
use Rattle.routes.specs.declared.update.job.Job.{Job}
use Rattle.routes.specs.declared.update.Phase.{Phase}
use Rattle.routes.specs.declared.update.Phase.TheVariants.{Refuse, Lock as AtLock, Check, Obtain, Recycle, Scan, Build, Publish, Retire, Reclaim, Finish}
use Rattle.routes.specs.declared.work.Work.TheVariants.{Update as Updating}
use Rattle.routes.specs.Memory.{Mem}
use Rattle.routes.specs.Routes.{State}
use Rattle.routes.specs.Machine.Updates.{UpdateReady}
use Rattle.routes.specs.Invariant.Ghosts.{Ghost}
use Rattle.routes.specs.Invariant.Inv.{Cpus, Inv}
use Rattle.routes.specs.Invariant.Registers.{holds_in}
use Rattle.routes.specs.Invariant.Writers.{PhaseFacts}
use Rattle.std.proofs.lemmas.Bool.{false≢true}
use Rattle.routes.proofs.Invariant.ChangeTurns.{build_may_turn, publish_may_turn, retire_may_turn}
use Rattle.routes.proofs.Invariant.CheckReady.{check_ready}
use Rattle.routes.proofs.Invariant.GatherReady.{obtain_ready, recycle_ready, scan_ready, reclaim_ready, finish_ready}
use Rattle.routes.proofs.Invariant.Holding.{holder_facts, holder_room, holder_small}
use Rattle.routes.proofs.Invariant.Steps.{lock_of}

module _ {m : Mem} {g : Ghost} {trail : ℕ → List ℕ} {s : State} {t : ℕ} {c : Cpus} {p : ℕ} (i : Inv m (lock_of p true) g trail s t c) (left : 0 < m.left) (mine : p ≡ m.who) (soon : suc t < 2 ^ 64) (j : Job) where
  -- Whatever the phase.
  pub holder_ready : (ph : Phase) → holds_in ph ≡ true → c.work p ≡ Updating j ph → UpdateReady m p j ph (c.own p)
  unfolding holds_in PhaseFacts
  holder_ready Refuse h e = absurd (false≢true h)
  holder_ready AtLock h e = absurd (false≢true h)
  holder_ready (Check k) h e = check_ready i.core p (record { once = left; turn = mine; inside = holder_small i }) (c.own p) (s.now' p) j k (holder_room i) (holder_facts i j (Check k) e)
  holder_ready (Obtain k) h e = obtain_ready i left mine j k e
  holder_ready (Recycle k) h e = recycle_ready i left mine j k e
  holder_ready (Scan k) h e = scan_ready i left mine j (omega arith) k e
  holder_ready (Build k) h e = build_may_turn i left mine j k e
  holder_ready (Publish k) h e = publish_may_turn i left mine j k
  holder_ready (Retire k) h e = retire_may_turn i left mine j soon k e
  holder_ready (Reclaim k) h e = reclaim_ready i left mine j k e
  holder_ready (Finish k) h e = finish_ready i left mine j k e
