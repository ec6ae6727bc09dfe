-- Every turn of Retire keeps the invariant.
use Rattle.std.proofs.Common.{◌≡◌, ℕ, suc, ◌+◌, ◌-◌, ◌^◌, ◌<◌, ◌≤◌, true, cond, T, eqb, ltb, List, [], ◌∷◌, sym, refl, ap, ◌∙◌, subst, inl, inr, arith}
use Rattle.std.proofs.lemmas.Bool.{cases_lt, cases_eq, lt-ltb, le-ltb}
use Rattle.words.specs.Slots.{child_of}
use Rattle.words.proofs.Packing.{child_same}
use Rattle.routes.specs.declared.update.job.Job.{Job}
use Rattle.routes.specs.declared.update.retire.Retire.{Retire}
use Rattle.routes.specs.declared.update.retire.Retire.TheVariants.{Epoch, SetEpoch, SetAt, SetNext, Tail, SetHead as ToHead, Link, SetTail as ToTail, Fence}
use Rattle.routes.specs.declared.update.scan.Scan.TheVariants.{ForLimit}
use Rattle.routes.specs.declared.update.Phase.TheVariants.{Retire as InRetire, Scan as InScan}
use Rattle.routes.specs.declared.work.Work.TheVariants.{Update as Updating}
use Rattle.routes.specs.Memory.{Mem, Arrives, counted, fenced, stored, set_val, sees}
use Rattle.routes.specs.Routes.{Event, Turned, State, Run, young}
use Rattle.routes.specs.Machine.Acts.{Did}
use Rattle.routes.specs.Machine.Retires.{retire_act, retire_after, retired_in, follower_in}
use Rattle.routes.specs.Counts.Counts.{cnt}
use Rattle.routes.specs.Late.Rows.{AllRow}
use Rattle.routes.specs.Late.View.{view}
use Rattle.routes.specs.Invariant.Ghosts.{Ghost, calm, heads}
use Rattle.routes.specs.Invariant.Holders.{replaced_blocks}
use Rattle.routes.specs.Invariant.Inv.{Cpus, Inv, set_cpu}
use Rattle.routes.specs.Invariant.Memories.{Chain, last_from, HeadStore, RowOk}
use Rattle.routes.specs.Invariant.Registers.{holds_in, passed_in, passed_scan}
use Rattle.routes.specs.Invariant.Retiring.{Joins, RetireFacts, replaced_at}
use Rattle.routes.specs.Invariant.Writers.{PhaseFacts, hall_of}
use Rattle.routes.proofs.Late.Fence.{fence_empties}
use Rattle.routes.proofs.Late.View.{view_open, open_low}
use Rattle.routes.proofs.Invariant.Fencing.{fence_turn, turn_later}
use Rattle.routes.proofs.Invariant.GoingOn.{GoesOn, on_retire}
use Rattle.routes.proofs.Invariant.Holding.{holder_facts, holder_room}
use Rattle.routes.proofs.Invariant.Chains.{last_of}
use Rattle.routes.proofs.Invariant.RetireFollows.{epoch_loaded, epoch_set, at_set, next_set, tail_loaded, loose_joined, tail_set, retire_fenced}
use Rattle.routes.proofs.Invariant.RetireReady.{replaced_loose, replaced_in}
use Rattle.routes.proofs.Invariant.Rowing.{rowed_turn}
use Rattle.routes.proofs.Invariant.Sights.{rowed, joined, mended}
use Rattle.routes.proofs.Invariant.Steps.{lock_of, Turn}
use Rattle.routes.proofs.Invariant.StoreKinds.{loose_store, epoch_store, head_store, link_store, tail_store}
use Rattle.routes.proofs.Invariant.Taking.{Takes, takes_load, takes_store, takes_later}
use Rattle.routes.proofs.Invariant.Apart.{solid as real, once as used-once, used_small}
use Rattle.std.specs.declared.ops.ControlFlow.TheVariants.{Continue}

-- Nothing is late at the fence: the scan begins.
limbo-fenced : {m : Mem} {g : Ghost} {trail : ℕ → List ℕ} {s : State} {t : ℕ} {c : Cpus} {p cpus blocks : ℕ} {es : List Event} → Inv m (lock_of p true) g trail s t c → Run cpus blocks es s → T (young (s.now' p)) → (j : Job) →
    c.work p ≡ Updating j (InRetire Fence) → m.late p ≡ [] → Turn (counted m) t (set_cpu p (Updating j (InScan (ForLimit 0 18446744073709551615))) (c.own p) c) cpus blocks (Turned p ∷ es) p s
unfolding PhaseFacts holds_in passed_in passed_scan RowOk AllRow
limbo-fenced {m} {g} {s = s} {c = c} {p = p} i r y j e none =
    rowed_turn heads j (InScan (ForLimit 0 18446744073709551615)) (c.own p) i r y (subst (λ z. AllRow HeadStore z) (sym none) tt) refl refl (holder_room i)
    (retire_fenced (view p m) (hall_of m) g (c.own p) s.table (s.now' p) j i.core.sizes.someone (holder_facts i j (InRetire Fence) e))

module _ {m : Mem} {g : Ghost} {trail : ℕ → List ℕ} {s : State} {t : ℕ} {c : Cpus} {p cpus blocks : ℕ} {es : List Event}
    (i : Inv m (lock_of p true) g trail s t c) (r : Run cpus blocks es s) (y : T (young (s.now' p))) (j : Job) where
  abbrev own : List ℕ
  own = c.own p

  abbrev v : ℕ → ℕ → ℕ
  v = view p m

  -- The facts of a state of Retire.
  facts : (st : Retire) → c.work p ≡ Updating j (InRetire st) → RetireFacts v g own (s.now' p) j st
  unfolding PhaseFacts
  facts st e = holder_facts i j (InRetire st) e

  -- What is loose is no header.
  solid : (b : ℕ) → 1 ≤ cnt b g.loose → b ≡ 0 → ⊥
  solid b l = real i.core b (omega arith)

  -- And it is there once.
  once : (b : ℕ) → cnt b g.loose ≤ 1
  once b = omega (arith, used-once i.core b)

  -- A block that was replaced is read as it stands.
  reads : (k : ℕ) → g.loose ≡ replaced_blocks own j → k < j.retired → retired_in own k ≡ replaced_at own k
  reads k is l = replaced_in m p true g s.table t i.core own (s.now' p) j k is l

  -- So is the one that follows it.
  follows : (k : ℕ) → g.loose ≡ replaced_blocks own j → follower_in j k own ≡ cond (ltb (suc k) j.retired) (replaced_at own (suc k)) 0
  follows k is =
      let q : k + 1 ≡ suc k = omega arith in
      ap (λ z. cond (ltb z j.retired) (retired_in own z) 0) q ∙ (elim (cases_lt (suc k) j.retired) [
        | inl l ↦ (let b = lt-ltb (suc k) j.retired l in rw b (reads (suc k) is l))
        | inr l ↦ (let b = le-ltb (suc k) j.retired l in rw b refl)
      ])

  -- The last of limbo has a number of 20 bits.
  last_small : last_from 0 g.chain < 2 ^ 20
  last_small = elim (cases_eq (last_from 0 g.chain) 0) [
    | inl z ↦ omega arith
    | inr z ↦ (let u = last_of g.chain z in used_small i.core (last_from 0 g.chain) (omega arith))
  ]

  -- LIMBO_TAIL is the last of limbo.
  tail_is : Joins v g own (s.now' p) j → child_of (sees p 0 4 m) ≡ last_from 0 g.chain
  tail_is f = ap child_of (sym (view_open p m 0 4 (open_low 4 (omega arith) (omega arith))) ∙ i.core.sight.ending f.whole) ∙ child_same (last_from 0 g.chain) last_small

  -- What is loose is linked from its first block on.
  links : Joins v g own (s.now' p) j → Chain v (retired_in own 0) g.loose
  links f =
      let is = f.retires.has.loose in
      subst (λ z. Chain v z g.loose) (sym (reads 0 is (omega (arith, f.some)))) (subst (λ z. Chain v (replaced_at own 0) z) (sym is) f.linked)

  -- A load.
  loads : (st : Retire) (x : ℕ) (n : Mem) → Arrives (counted m) n → GoesOn v (hall_of m) g own s.table (s.now' p) (Continue (j, retire_after j st x)) → Takes (suc t) c p s own (Continue (j, retire_after j st x)) cpus blocks es n
  loads st x n a k = takes_later (takes_load i r y n own (holder_room i) (Continue (j, retire_after j st x)) a k)

  -- The turn, whatever the state.
  pub retire_turn : (st : Retire) → c.work p ≡ Updating j (InRetire st) → (x : ℕ) (n : Mem) → Did p (retire_act j st own) m x n → Takes (suc t) c p s own (Continue (j, retire_after j st x)) cpus blocks es n
  unfolding RetireFacts
  retire_turn Epoch e x n d = loads Epoch x n d.1
      (on_retire v (hall_of m) g own s.table (s.now' p) j true (SetEpoch x) (SetEpoch x) (epoch_loaded v (hall_of m) g own s.table (s.now' p) j x (d.0 ∙ sym (view_open p m 0 2 (open_low 2 (omega arith) (omega arith)))) (facts Epoch e)))
  retire_turn (SetEpoch a) e x n d =
      let f = facts (SetEpoch a) e in
      takes_store i r y n own (holder_room i) (Continue (j, retire_after j (SetEpoch a) x)) 0 2 (a + 1) (suc t) (rowed calm g) d.1 (epoch_store m p true g s.table t i.core a f.0.has.row f.3)
      (on_retire (set_val 0 2 (a + 1) v) (hall_of m) (rowed calm g) own s.table (s.now' p) j (ltb 0 j.retired) (SetAt 0 a) Fence (epoch_set v (hall_of m) g own s.table (s.now' p) j a f))
  retire_turn (SetAt k a) e x n d =
      let f = facts (SetAt k a) e in let is = f.retires.has.loose in
      let q = subst (λ z. Arrives (counted (stored p z 31 a m)) n) (reads k is f.here) d.1 in
      takes_later (takes_store i r y n own (holder_room i) (Continue (j, retire_after j (SetAt k a) x)) (replaced_at own k) 31 a t g q
      (loose_store m p true g s.table t i.core (replaced_at own k) 31 a f.retires.has.row (replaced_loose g own j k is f.here) (omega arith))
      (on_retire (set_val (replaced_at own k) 31 a v) (hall_of m) g own s.table (s.now' p) j true (SetNext k a) (SetNext k a) (at_set v (hall_of m) g own s.table (s.now' p) j solid once is k a f)))
  retire_turn (SetNext k a) e x n d =
      let f = facts (SetNext k a) e in let is = f.0.retires.has.loose in
      let q = subst (λ z. Arrives (counted (stored p z 32 (follower_in j k own) m)) n) (reads k is f.0.here) d.1 in
      takes_later (takes_store i r y n own (holder_room i) (Continue (j, retire_after j (SetNext k a) x)) (replaced_at own k) 32 (follower_in j k own) t g q
      (loose_store m p true g s.table t i.core (replaced_at own k) 32 (follower_in j k own) f.0.retires.has.row (replaced_loose g own j k is f.0.here) (omega arith))
      (on_retire (set_val (replaced_at own k) 32 (follower_in j k own) v) (hall_of m) g own s.table (s.now' p) j (ltb (k + 1) j.retired) (SetAt (k + 1) a) Tail
      (next_set v (hall_of m) g own s.table (s.now' p) j solid once is k a (follower_in j k own) (follows k is) f.0 f.1)))
  retire_turn Tail e x n d =
      let f = facts Tail e in
      loads Tail x n d.1 (on_retire v (hall_of m) g own s.table (s.now' p) j (eqb (child_of x) 0) ToHead (Link (child_of x))
      (tail_loaded v (hall_of m) g own s.table (s.now' p) j (child_of x) (ap child_of d.0 ∙ tail_is f) i.core.sight.linked f))
  retire_turn ToHead e x n d =
      let f = facts ToHead e in
      takes_later (takes_store i r y n own (holder_room i) (Continue (j, retire_after j ToHead x)) 0 3 (retired_in own 0) t (joined g) d.1
      (head_store m p true g s.table t i.core (retired_in own 0) f.0.retires.has.row (links f.0) f.0.stamped f.1)
      (on_retire (set_val 0 3 (retired_in own 0) v) (hall_of m) (joined g) own s.table (s.now' p) j true ToTail ToTail (loose_joined v (hall_of m) g own s.table (s.now' p) j (set_val 0 3 (retired_in own 0) v) f.0)))
  retire_turn (Link b) e x n d =
      let f = facts (Link b) e in
      takes_later (takes_store i r y n own (holder_room i) (Continue (j, retire_after j (Link b) x)) b 32 (retired_in own 0) t (joined g) d.1
      (link_store m p true g s.table t i.core (retired_in own 0) f.0.retires.has.row (links f.0) f.0.stamped b f.2 f.1)
      (on_retire (set_val b 32 (retired_in own 0) v) (hall_of m) (joined g) own s.table (s.now' p) j true ToTail ToTail (loose_joined v (hall_of m) g own s.table (s.now' p) j (set_val b 32 (retired_in own 0) v) f.0)))
  retire_turn ToTail e x n d =
      let f = facts ToTail e in
      let last = ap child_of f.2 ∙ child_same (last_from 0 g.chain) last_small in
      takes_later (takes_store i r y n own (holder_room i) (Continue (j, retire_after j ToTail x)) 0 4 (retired_in own (j.retired - 1)) t (mended g) d.1
      (tail_store m p true g s.table t i.core (retired_in own (j.retired - 1)) f.0.has.row last)
      (on_retire (set_val 0 4 (retired_in own (j.retired - 1)) v) (hall_of m) (mended g) own s.table (s.now' p) j true Fence Fence (tail_set v (hall_of m) g own s.table (s.now' p) j (set_val 0 4 (retired_in own (j.retired - 1)) v) f)))
  retire_turn Fence e x n d = record {
    memory = counted (fenced p m);
    arrives = d.1;
    job = j;
    phase = InScan (ForLimit 0 18446744073709551615);
    is = refl;
    turn = fence_turn i r y (λ g' s' i' r' y'. turn_later (limbo-fenced i' r' y' j e (fence_empties p m)));
  }
