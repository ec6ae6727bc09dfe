-- The turns of Obtain, Recycle, Scan, Reclaim and Finish that keep the lock: from what the memory did to the invariant.
use Rattle.std.proofs.Common.{◌≡◌, ℕ, zero, suc, true, T, List, ◌∷◌, length, None, sym, refl, subst, inl, inr}
use Rattle.std.proofs.lemmas.Bool.{false≢true}
use Rattle.std.proofs.lemmas.Bool.Decides.{eqb_tells}
use Rattle.routes.specs.declared.Answer.TheVariants.{Full as FullAnswer}
use Rattle.routes.specs.declared.Ask.TheVariants.{Change}
use Rattle.routes.specs.declared.update.job.Job.{Job}
use Rattle.routes.specs.declared.update.finish.Finish.TheVariants.{Unused}
use Rattle.routes.specs.declared.update.obtain.Obtain.TheVariants.{Get, Undo}
use Rattle.routes.specs.declared.update.reclaim.Reclaim.{Reclaim}
use Rattle.routes.specs.declared.update.reclaim.Reclaim.TheVariants.{Head, RetiredAt, Next, SetHead, SetTail, Release}
use Rattle.routes.specs.declared.update.recycle.Recycle.{Recycle}
use Rattle.routes.specs.declared.update.recycle.Recycle.TheVariants.{Head as OldHead, RetiredAt as OldAt, Next as OldNext, SetHead as OldSetHead, SetTail as OldSetTail}
use Rattle.routes.specs.declared.update.scan.Scan.{Scan}
use Rattle.routes.specs.declared.update.scan.Scan.TheVariants.{ForNode, ForLimit}
use Rattle.routes.specs.declared.update.Phase.{Phase}
use Rattle.routes.specs.declared.update.Phase.TheVariants.{Obtain as InObtain, Recycle as InRecycle, Scan as InScan, Reclaim as InReclaim, Finish as InFinish}
use Rattle.routes.specs.declared.work.Work.TheVariants.{Update as Updating}
use Rattle.routes.specs.Memory.{Mem, Arrives, sees, counted}
use Rattle.routes.specs.Routes.{State, Under, Over, Event, Turned, Run, young, limit}
use Rattle.routes.specs.Machine.Acts.{Did}
use Rattle.routes.specs.Machine.Cpus.{work_of_update}
use Rattle.std.specs.ControlFlow.{break_value}
use Rattle.routes.specs.Machine.Updates.{update_act, update_after, update_words}
use Rattle.routes.specs.Run.Steps.{settled_at}
use Rattle.routes.specs.Invariant.Ghosts.{Ghost}
use Rattle.routes.specs.Invariant.Gathering.{Gathered}
use Rattle.routes.specs.Invariant.Registers.{holds}
use Rattle.routes.specs.Invariant.Inv.{Inv, Cpus, set_cpu}
use Rattle.routes.proofs.Late.Obtain.{obtains_some, obtains_none}
use Rattle.routes.proofs.Run.Make.{settle_full}
use Rattle.routes.proofs.Run.Steps.{now_own}
use Rattle.routes.proofs.Invariant.Alike.{alike_same, alike_settled}
use Rattle.routes.proofs.Invariant.Arriving.{turn_arrives}
use Rattle.routes.proofs.Invariant.FreshBlocks.{room_more}
use Rattle.routes.proofs.Invariant.Holding.{holder_room}
use Rattle.routes.proofs.Invariant.HolderSteps.{HolderStep, step_turn}
use Rattle.routes.proofs.Invariant.Obtains.{got_few, get_step, get_none, undo_step}
use Rattle.routes.proofs.Invariant.Recycles.{reuse_few, head_facts, head_step, head_full, full_step, retired_at_step, next_step, set_head_step, set_tail_step}
use Rattle.routes.proofs.Invariant.Reclaims.{head_step as reclaim-head, retired_at_step as reclaim-at, next_step as reclaim-next, set_head_step as reclaim-set-head, set_tail_step as reclaim-set-tail, release_step, unused_step}
use Rattle.routes.proofs.Invariant.Scans.{for_node_step, for_limit_step}
use Rattle.routes.proofs.Invariant.Steps.{lock_of, Turn}
use Rattle.routes.specs.Machine.Nexts.{UpdateNext}
use Rattle.std.specs.declared.ops.ControlFlow.TheVariants.{Continue, Break}

-- a turn of p that goes on with its update, with these own words, and tells nothing; n is the memory after it and after what has arrived since
pub record TurnOn (t : ℕ) (c : Cpus) (p : ℕ) (s : State) (own : List ℕ) (next : UpdateNext) (cpus blocks : ℕ) (es : List Event) (n : Mem) : Type 0 where
  pub turn : Turn n t (set_cpu p (work_of_update next) own c) cpus blocks (Turned p ∷ es) p s
  pub untold : break_value next ≡ None

-- An update that still holds the lock has told nothing.
pub none_told : (u : UpdateNext) → holds (work_of_update u) ≡ true → break_value u ≡ None
unfolding holds
none_told (Continue u) e = refl
none_told (Break a) e = absurd (false≢true e)

module _ {m : Mem} {g : Ghost} {trail : ℕ → List ℕ} {s : State} {t : ℕ} {c : Cpus} {p : ℕ} (i : Inv m (lock_of p true) g trail s t c)
    {cpus blocks : ℕ} {es : List Event} (r : Run cpus blocks es s) (y : T (young (s.now' p))) (j : Job) where
  -- its own words
  abbrev o : List ℕ
  o = c.own p

  -- the turn from this phase by this reply, to memory n
  abbrev pub Goes : Phase → ℕ → Mem → Type 0
  Goes ph x n = TurnOn t c p s (update_words j ph o x) (update_after m.cpus j ph o x) cpus blocks es n

  -- A step that needs no hidden one.
  goes : {n m' : Mem} (own : List ℕ) (next : UpdateNext) → Arrives m' n → m'.cpus ≡ m.cpus → length own ≡ 4096 → HolderStep m p g trail s.table t (s.now' p) m' own (work_of_update next) →
      TurnOn t c p s own next cpus blocks es n
  goes own next a same room h = record { turn = turn_arrives a (step_turn own (work_of_update next) i (alike_same p s) r y same room h); untold = none_told next h.holding }

  -- Get: a block, or none.
  pub get_turn : (x : ℕ) (n : Mem) → c.work p ≡ Updating j (InObtain Get) → Did p (update_act p j (InObtain Get) o) m x n → Goes (InObtain Get) x n
  get_turn zero n e d = let a = obtains_none d in goes o _ a.1 refl (holder_room i) (get_none i j e a.0)
  get_turn (suc b) n e d = let a = obtains_some d in
      goes _ _ a.arrives refl (room_more o j b (holder_room i) (got_few i j e)) (get_step i j e b a.words a.inside a.free a.same)

  -- Undo.
  pub undo_turn : (x : ℕ) (n : Mem) → c.work p ≡ Updating j (InObtain Undo) → Did p (update_act p j (InObtain Undo) o) m x n → Goes (InObtain Undo) x n
  undo_turn x n e d = goes o _ d.1 refl (holder_room i) (undo_step i j e)

  -- Where nothing is retired, the update is told full: it takes effect in this turn.
  full_turn : blocks ≡ m.blocks → (n : Mem) → c.work p ≡ Updating j (InRecycle OldHead) → sees p 0 3 m ≡ 0 → Arrives (counted m) n → Goes (InRecycle OldHead) (sees p 0 3 m) n
  unfolding young
  full_turn size n e z a = record {
    turn = turn_arrives a (step_turn o _ i (alike_settled p (Change count) f.ps FullAnswer age s is) run' soon refl (holder_room i) undoes);
    untold = none_told (update_after m.cpus j (InRecycle OldHead) o (sees p 0 3 m)) undoes.holding;
  }
    where
      f : Gathered g o s.table (s.now' p) j
      f = (head_facts i j e).0.gathered

      count : ℕ
      count = f.awaits.0

      age : ℕ
      age = f.awaits.1

      is : s.now' p ≡ Under (Change count) f.ps age
      is = f.awaits.2

      settled : State
      settled = settled_at p (Change count) FullAnswer age s.table s

      run' : Run cpus blocks es settled
      run' = settle_full r p count f.ps age f.qs is f.sure.makes (rw size (head_full i j e z))

      undoes : HolderStep m p g trail s.table t (settled.now' p) (counted m) o (work_of_update (update_after m.cpus j (InRecycle OldHead) o (sees p 0 3 m)))
      undoes = full_step i j e (settled.now' p) (count, age, now_own p (Over (Change count) FullAnswer age) s.table s) z

      soon : T (young (settled.now' p))
      soon = rw (now_own p (Over (Change count) FullAnswer age) s.table s) (rw is at y)

  -- Recycle.
  pub recycle_turn : blocks ≡ m.blocks → (st : Recycle) (x : ℕ) (n : Mem) → c.work p ≡ Updating j (InRecycle st) → Did p (update_act p j (InRecycle st) o) m x n → Goes (InRecycle st) x n
  recycle_turn size OldHead x n e d = subst (λ z. Goes (InRecycle OldHead) z n) (sym d.0) (elim (eqb_tells (sees p 0 3 m) 0) [
    | inl z ↦ full_turn size n e z.1 d.1
    | inr z ↦ goes o _ d.1 refl (holder_room i) (head_step i j e z.1)
  ])
  recycle_turn size (OldAt b) x n e d = subst (λ z. Goes (InRecycle (OldAt b)) z n) (sym d.0) (goes o _ d.1 refl (holder_room i) (retired_at_step i j b e))
  recycle_turn size (OldNext b grace) x n e d = subst (λ z. Goes (InRecycle (OldNext b grace)) z n) (sym d.0) (goes o _ d.1 refl (holder_room i) (next_step i j b grace e))
  recycle_turn size (OldSetHead b next grace) x n e d = goes _ _ d.1 refl (room_more o j b (holder_room i) (reuse_few i j b next grace e)) (set_head_step i j b next grace e)
  recycle_turn size OldSetTail x n e d = goes o _ d.1 refl (holder_room i) (set_tail_step i j e)

  -- Scan.
  pub scan_turn : (st : Scan) (x : ℕ) (n : Mem) → c.work p ≡ Updating j (InScan st) → Did p (update_act p j (InScan st) o) m x n → Goes (InScan st) x n
  scan_turn (ForNode q b stamp) x n e d = subst (λ z. Goes (InScan (ForNode q b stamp)) z n) (sym d.0) (goes o _ d.1 refl (holder_room i) (for_node_step i j q b stamp e))
  scan_turn (ForLimit q limit) x n e d = subst (λ z. Goes (InScan (ForLimit q limit)) z n) (sym d.0) (goes o _ d.1 refl (holder_room i) (for_limit_step i j q limit e))

  -- Reclaim.
  pub reclaim_turn : (st : Reclaim) (x : ℕ) (n : Mem) → c.work p ≡ Updating j (InReclaim st) → Did p (update_act p j (InReclaim st) o) m x n → Goes (InReclaim st) x n
  reclaim_turn (Head grace left) x n e d = subst (λ z. Goes (InReclaim (Head grace left)) z n) (sym d.0) (goes o _ d.1 refl (holder_room i) (reclaim-head i j grace left e))
  reclaim_turn (RetiredAt grace left b) x n e d = subst (λ z. Goes (InReclaim (RetiredAt grace left b)) z n) (sym d.0) (goes o _ d.1 refl (holder_room i) (reclaim-at i j grace left b e))
  reclaim_turn (Next grace left b) x n e d = subst (λ z. Goes (InReclaim (Next grace left b)) z n) (sym d.0) (goes o _ d.1 refl (holder_room i) (reclaim-next i j grace left b e))
  reclaim_turn (SetHead grace left b next) x n e d = goes o _ d.1 refl (holder_room i) (reclaim-set-head i j grace left b next e)
  reclaim_turn (SetTail grace left b) x n e d = goes o _ d.1 refl (holder_room i) (reclaim-set-tail i j grace left b e)
  reclaim_turn (Release grace left b) x n e d = goes o _ d.1 refl (holder_room i) (release_step i j grace left b e)

  -- Finish, before the lock is given up.
  pub unused_turn : (x : ℕ) (n : Mem) → c.work p ≡ Updating j (InFinish Unused) → Did p (update_act p j (InFinish Unused) o) m x n → Goes (InFinish Unused) x n
  unused_turn x n e d = goes o _ d.1 refl (holder_room i) (unused_step i j e)
