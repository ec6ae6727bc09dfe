-- Every turn of Publish keeps the invariant.
use Rattle.std.proofs.Common.{◌≡◌, ℕ, suc, true, T, List, [], ◌∷◌, refl, inl, inr, arith}
use Rattle.routes.specs.declared.update.job.Job.{Job}
use Rattle.routes.specs.declared.update.publish.Publish.{Publish}
use Rattle.routes.specs.declared.update.publish.Publish.TheVariants.{FenceNodes, SetRoot, FenceRoot}
use Rattle.routes.specs.declared.update.retire.Retire.TheVariants.{Epoch}
use Rattle.routes.specs.declared.update.Phase.TheVariants.{Publish as InPublish, Retire as InRetire}
use Rattle.routes.specs.declared.work.Work.TheVariants.{Update as Updating}
use Rattle.routes.specs.Memory.{Mem, counted, fenced, stored, set_val}
use Rattle.routes.specs.Routes.{Route, Now, Event, Turned, State, Run, young}
use Rattle.routes.specs.Machine.Acts.{Did}
use Rattle.routes.specs.Machine.Publishes.{publish_act, publish_after}
use Rattle.routes.specs.Late.View.{view}
use Rattle.routes.specs.Invariant.Building.{Published, Landed, PublishFacts}
use Rattle.routes.specs.Invariant.Ghosts.{Ghost, still, calm, ripe}
use Rattle.routes.specs.Invariant.Holders.{replaced_blocks, rest_blocks}
use Rattle.routes.specs.Invariant.Inv.{Cpus, Inv, set_cpu}
use Rattle.routes.specs.Invariant.Memories.{RowOk}
use Rattle.routes.specs.Invariant.Registers.{holds_in, passed_in}
use Rattle.routes.specs.Invariant.Retiring.{RetireFacts}
use Rattle.routes.specs.Invariant.Writers.{Hall, PhaseFacts, hall_of}
use Rattle.routes.proofs.Late.Fence.{fence_empties}
use Rattle.routes.proofs.Invariant.Alike.{alike_same}
use Rattle.routes.proofs.Invariant.CalmRows.{row_of}
use Rattle.routes.proofs.Invariant.Fencing.{fence_turn, turn_later}
use Rattle.routes.proofs.Invariant.Holding.{holder_facts, holder_room, load_turn}
use Rattle.routes.proofs.Invariant.Rowing.{rowed_turn}
use Rattle.routes.proofs.Invariant.Sights.{rowed}
use Rattle.routes.proofs.Invariant.Needs.{need_few}
use Rattle.routes.proofs.Invariant.Steps.{lock_of, Turn}
use Rattle.routes.proofs.Invariant.StoreKinds.{root_store}
use Rattle.routes.proofs.Invariant.Storing.{store_turn}
use Rattle.routes.proofs.Invariant.Taking.{Takes}
use Rattle.std.specs.declared.ops.ControlFlow.TheVariants.{Continue}

module _ (v : ℕ → ℕ → ℕ) (hall : Hall) (g : Ghost) (o : List ℕ) (rs : List Route) (n : Now) (j : Job) where
  -- All nodes are there: the tree may be published.
  nodes-fenced : Published v g o rs n j calm → PhaseFacts v hall (rowed still g) o rs n j (InPublish SetRoot)
  unfolding PhaseFacts PublishFacts
  nodes-fenced f = record {
    ps = f.ps;
    qs = f.qs;
    W = f.W;
    built = f.built;
    spent = f.spent;
    few = f.few;
    equipped = record { has = record { row = refl; loose = f.equipped.has.loose; fresh = f.equipped.has.fresh }; whole = f.equipped.whole; awaits = f.equipped.awaits; sure = f.equipped.sure; all = f.equipped.all };
  }

  -- The root is stored.
  root_stored : (v' : ℕ → ℕ → ℕ) (f : Published v g o rs n j still) → PhaseFacts v' hall (rowed (ripe f.W (replaced_blocks o j) (rest_blocks o j) f.qs) g) o rs n j (InPublish FenceRoot)
  unfolding PhaseFacts PublishFacts
  root_stored v' f =
      let e = f.equipped in (
        e.whole,
        omega (arith, f.spent, e.all),
        omega (arith, need_few e.sure, e.all),
        f.few,
        inl (record { ps = f.ps; qs = f.qs; W = f.W; row = refl; fresh = e.has.fresh; awaits = e.awaits; sure = e.sure }),
      )

  -- It has arrived: what it replaced is to be retired.
  root_landed : PublishFacts v g o rs n j FenceRoot → Landed v g o n j → PhaseFacts v hall g o rs n j (InRetire Epoch)
  unfolding PhaseFacts PublishFacts RetireFacts
  root_landed f l = (record { has = l.has; done = l.done; spent = f.1; few = f.2; short = f.3 }, f.0, l.stamps)

module _ {m : Mem} {g : Ghost} {trail : ℕ → List ℕ} {s : State} {t : ℕ} {c : Cpus} {p cpus blocks : ℕ} {es : List Event}
    (i : Inv m (lock_of p true) g trail s t c) (r : Run cpus blocks es s) (y : T (young (s.now' p))) (j : Job) where
  abbrev own : List ℕ
  own = c.own p

  -- The facts of a state of Publish.
  facts : (st : Publish) → c.work p ≡ Updating j (InPublish st) → PublishFacts (view p m) g own s.table (s.now' p) j st
  unfolding PhaseFacts
  facts st e = holder_facts i j (InPublish st) e

  -- At the first fence.
  nodes-landed : c.work p ≡ Updating j (InPublish FenceNodes) → m.late p ≡ [] → Turn (counted m) t (set_cpu p (Updating j (InPublish SetRoot)) own c) cpus blocks (Turned p ∷ es) p s
  unfolding PublishFacts holds_in passed_in RowOk
  nodes-landed e none = rowed_turn still j (InPublish SetRoot) own i r y none refl refl (holder_room i) (nodes-fenced (view p m) (hall_of m) g own s.table (s.now' p) j (facts FenceNodes e))

  -- The store of the root.
  set_root : c.work p ≡ Updating j (InPublish SetRoot) → Turn (counted (stored p 0 1 j.root m)) t (set_cpu p (Updating j (InPublish FenceRoot)) own c) cpus blocks (Turned p ∷ es) p s
  unfolding PublishFacts holds_in passed_in
  set_root e =
      let f = facts SetRoot e in
      store_turn j (InPublish FenceRoot) own i (alike_same p s) r y (root_store m p true g s.table t i.core own (s.now' p) j f) refl (holder_room i)
      (root_stored (view p m) (hall_of m) g own s.table (s.now' p) j (set_val 0 1 j.root (view p m)) f) (λ q b l. absurd (omega arith))

  -- At the second fence.
  root_there : c.work p ≡ Updating j (InPublish FenceRoot) → m.late p ≡ [] → Turn (counted m) t (set_cpu p (Updating j (InRetire Epoch)) own c) cpus blocks (Turned p ∷ es) p s
  unfolding PublishFacts holds_in passed_in RowOk
  root_there e none = elim (facts FenceRoot e).4 [
    | inl k ↦ absurd (let w = row_of (ripe k.W (replaced_blocks own j) (rest_blocks own j) k.qs) m p g (view p m 0 2) k.row i.core.row in
        let z : ◌≡◌ {A = ℕ} 0 1 = cc (none, w.late) in omega arith)
    | inr k ↦ load_turn j (InRetire Epoch) own i (alike_same p s) r y refl (holder_room i) (root_landed (view p m) (hall_of m) g own s.table (s.now' p) j (facts FenceRoot e) k) (λ q b l. absurd (omega arith))
  ]

module _ {m : Mem} {g : Ghost} {trail : ℕ → List ℕ} {s : State} {t : ℕ} {c : Cpus} {p cpus blocks : ℕ} {es : List Event}
    (i : Inv m (lock_of p true) g trail s t c) (r : Run cpus blocks es s) (y : T (young (s.now' p))) (j : Job) where
  -- The turn, whatever the state.
  pub publish_turn : (st : Publish) → c.work p ≡ Updating j (InPublish st) → (x : ℕ) (n : Mem) → Did p (publish_act j st) m x n → Takes (suc t) c p s (c.own p) (Continue (j, publish_after st x)) cpus blocks es n
  publish_turn FenceNodes e x n d = record {
    memory = counted (fenced p m);
    arrives = d.1;
    job = j;
    phase = InPublish SetRoot;
    is = refl;
    turn = fence_turn i r y (λ g' s' i' r' y'. turn_later (nodes-landed i' r' y' j e (fence_empties p m)));
  }
  publish_turn SetRoot e x n d = record { memory = counted (stored p 0 1 j.root m); arrives = d.1; job = j; phase = InPublish FenceRoot; is = refl; turn = turn_later (set_root i r y j e) }
  publish_turn FenceRoot e x n d = record {
    memory = counted (fenced p m);
    arrives = d.1;
    job = j;
    phase = InRetire Epoch;
    is = refl;
    turn = fence_turn i r y (λ g' s' i' r' y'. turn_later (root_there i' r' y' j e (fence_empties p m)));
  }
