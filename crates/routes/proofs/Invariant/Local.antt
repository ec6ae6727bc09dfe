-- A step of a processor that has not the lock: it writes at most its own announcement.
use Rattle.std.proofs.Common.{◌≡◌, ℕ, ◌+◌, ◌<◌, ◌≤◌, Bool, false, ◌⊎◌, List, [], length, sym, refl, ap, ◌∙◌, subst, inl, inr, arith}
use Rattle.std.proofs.lemmas.Bool.Decides.{nat_tests as tests, eqb_tells}
use Rattle.std.proofs.lemmas.Bool.{true≢false}
use Rattle.routes.specs.declared.update.job.Job.{Job}
use Rattle.routes.specs.declared.update.Phase.{Phase}
use Rattle.routes.specs.declared.update.Phase.TheVariants.{Refuse, Lock as AtLock, Check, Obtain, Recycle, Scan, Build, Publish, Retire, Reclaim, Finish}
use Rattle.routes.specs.declared.work.Work.{Work}
use Rattle.routes.specs.declared.work.Work.TheVariants.{Idle, Lookup as Looking, Update as Updating}
use Rattle.routes.specs.Memory.{Mem, set_at}
use Rattle.routes.specs.Routes.{Route, Now, State}
use Rattle.routes.specs.Counts.Counts.{cnt}
use Rattle.routes.specs.Late.View.{view}
use Rattle.routes.specs.Tree.Trees.{count}
use Rattle.routes.specs.Invariant.Ghosts.{Ghost, Row, still, heads, calm, ripe, limbo}
use Rattle.routes.specs.Invariant.Holders.{Resting}
use Rattle.routes.specs.Invariant.Memories.{RowOk, Core}
use Rattle.routes.specs.Invariant.Readers.{Reader}
use Rattle.routes.specs.Invariant.Registers.{holds, holds_in, passed, passed_in, nobody}
use Rattle.routes.specs.Invariant.Writers.{Hall, hall_of, PhaseFacts, Writer}
use Rattle.routes.specs.Invariant.Inv.{Lock, Cpus, Inv, set_cpu}
use Rattle.routes.proofs.Basics.Places.{set_at_hit}
use Rattle.routes.proofs.Late.View.{view_same}
use Rattle.routes.proofs.Repr.Nodes.{repr_stays}
use Rattle.routes.proofs.Invariant.Apart.{solid}
use Rattle.routes.proofs.Invariant.Rely.{Leaves, reader_stays}

-- m' is m, but for what p announces
pub record Touches (m m' : Mem) (p : ℕ) : Type 0 where
  pub vals : (b w : ℕ) → ((b ≡ 0) × (w ≡ 16 + p) → ⊥) → m'.val b w ≡ m.val b w
  pub held : m'.held ≡ m.held
  pub late : m'.late ≡ m.late
  pub cpus : m'.cpus ≡ m.cpus
  pub blocks : m'.blocks ≡ m.blocks

-- In a phase without the lock nothing is left over, and nothing was passed.
phase_rests : (v : ℕ → ℕ → ℕ) (hall : Hall) (g : Ghost) (o : List ℕ) (rs : List Route) (n : Now) (j : Job) (s : Phase) → holds_in s ≡ false → PhaseFacts v hall g o rs n j s → Resting g
unfolding PhaseFacts holds_in
phase_rests v hall g o rs n j Refuse e f = f
phase_rests v hall g o rs n j AtLock e f = f
phase_rests v hall g o rs n j (Check s) e f = absurd (true≢false e)
phase_rests v hall g o rs n j (Obtain s) e f = absurd (true≢false e)
phase_rests v hall g o rs n j (Recycle s) e f = absurd (true≢false e)
phase_rests v hall g o rs n j (Scan s) e f = absurd (true≢false e)
phase_rests v hall g o rs n j (Build s) e f = absurd (true≢false e)
phase_rests v hall g o rs n j (Publish s) e f = absurd (true≢false e)
phase_rests v hall g o rs n j (Retire s) e f = absurd (true≢false e)
phase_rests v hall g o rs n j (Reclaim s) e f = absurd (true≢false e)
phase_rests v hall g o rs n j (Finish s) e f = absurd (true≢false e)

-- Where nothing is left over, that is all that is said of such a phase.
rests_phase : (v : ℕ → ℕ → ℕ) (hall : Hall) (g : Ghost) (o : List ℕ) (rs : List Route) (n : Now) (j : Job) (cpus : ℕ) (s : Phase) → holds_in s ≡ false → Resting g → PhaseFacts v hall g o rs n j s × (passed_in cpus s ≡ nobody)
unfolding PhaseFacts holds_in passed_in
rests_phase v hall g o rs n j cpus Refuse e f = (f, refl)
rests_phase v hall g o rs n j cpus AtLock e f = (f, refl)
rests_phase v hall g o rs n j cpus (Check s) e f = absurd (true≢false e)
rests_phase v hall g o rs n j cpus (Obtain s) e f = absurd (true≢false e)
rests_phase v hall g o rs n j cpus (Recycle s) e f = absurd (true≢false e)
rests_phase v hall g o rs n j cpus (Scan s) e f = absurd (true≢false e)
rests_phase v hall g o rs n j cpus (Build s) e f = absurd (true≢false e)
rests_phase v hall g o rs n j cpus (Publish s) e f = absurd (true≢false e)
rests_phase v hall g o rs n j cpus (Retire s) e f = absurd (true≢false e)
rests_phase v hall g o rs n j cpus (Reclaim s) e f = absurd (true≢false e)
rests_phase v hall g o rs n j cpus (Finish s) e f = absurd (true≢false e)

-- Who had the lock last and has it no more has left nothing over.
pub writer_rests : (v : ℕ → ℕ → ℕ) (hall : Hall) (g : Ghost) (o : List ℕ) (rs : List Route) (n : Now) (work : Work) → holds work ≡ false → Writer v hall g o rs n work → Resting g
unfolding Writer holds
writer_rests v hall g o rs n Idle e f = f
writer_rests v hall g o rs n (Looking l) e f = f
writer_rests v hall g o rs n (Updating j s) e f = phase_rests v hall g o rs n j s e f

-- Then no more is said of it.
pub rests_writer : (v : ℕ → ℕ → ℕ) (hall : Hall) (g : Ghost) (o : List ℕ) (rs : List Route) (n : Now) (cpus : ℕ) (work : Work) → holds work ≡ false → Resting g → Writer v hall g o rs n work × (passed cpus work ≡ nobody)
unfolding Writer holds passed
rests_writer v hall g o rs n cpus Idle e f = (f, refl)
rests_writer v hall g o rs n cpus (Looking l) e f = (f, refl)
rests_writer v hall g o rs n cpus (Updating j s) e f = rests_phase v hall g o rs n j cpus s e f

-- Who has not the lock has nothing late.
pub quiet_late : {m : Mem} {k : Lock} {g : Ghost} {trail : ℕ → List ℕ} {s : State} {t : ℕ} {c : Cpus} (p : ℕ) → Inv m k g trail s t c → holds (c.work p) ≡ false → m.late p ≡ []
unfolding RowOk
quiet_late {m} {k} {g} {s = s} {c = c} p i h = elim (eqb_tells p k.who) [
  | inl e ↦ (let r = writer_rests (view k.who m) (hall_of m) g (c.own k.who) s.table (s.now' k.who) (c.work k.who) (ap (λ z. holds (c.work z)) (sym e.1) ∙ h) i.writer in
      ap m.late e.1 ∙ subst (λ z. RowOk z m k.who g (view k.who m 0 2)) r.has.row i.core.row)
  | inr e ↦ i.core.others p e.1
]

-- The view of anybody stays.
touch_view : {m m' : Mem} {p : ℕ} (h : ℕ) → Touches m m' p → view h m' ≡ view h m
touch_view {m} {m'} {p} h touch = view_same h h m' m (λ b w e. rw (touch.late, touch.vals b w (λ d. grind (arith, tests))) refl)

-- What holds of the memory stays.
pub touch_core : {m m' : Mem} {p h : ℕ} {locked : Bool} {g : Ghost} {rs : List Route} {t : ℕ} → Touches m m' p → Core m h locked g rs t → Core m' h locked g rs t
unfolding RowOk
touch_core {m} {m'} {p} {h} {locked} {g} {rs} {t} touch o = record {
  sizes = record { someone = rw touch.cpus o.sizes.someone; cpus = rw touch.cpus o.sizes.cpus; blocks = rw touch.blocks o.sizes.blocks };
  others = λ q ne. rw touch.late (o.others q ne);
  row = rw (touch_view h touch) (row_moves g.row o.row);
  writer = header 0 (omega arith) ∙ o.writer;
  root = header 1 (omega arith) ∙ o.root;
  repr = repr_stays m.val m'.val g.tree (λ b w u l. node b w (omega arith)) o.repr;
  good = o.good;
  blocks = λ b. rw touch.held (o.blocks b);
  inside = λ b e. rw touch.blocks (o.inside b (rw touch.held at e));
  sight = rw (touch_view h touch, header 2 (omega arith)) o.sight;
}
  where
    header : (w : ℕ) → w < 16 → m'.val 0 w ≡ m.val 0 w
    header w l = touch.vals 0 w (λ d. omega (arith, d.1))

    node : (b w : ℕ) → 1 ≤ count b g.tree + cnt b g.fresh → m'.val b w ≡ m.val b w
    node b w u = touch.vals b w (λ d. solid o b (omega arith) d.0)

    row_moves : (r : Row) → RowOk r m h g (view h m 0 2) → RowOk r m' h g (view h m 0 2)
    row_moves still f = rw touch.late f
    row_moves heads f = rw touch.late f
    row_moves calm f = rw touch.late f
    row_moves (ripe new retired rest table) f = record {
      late = rw touch.late f.late;
      repr = repr_stays m.val m'.val new (λ b w u l. node b w (omega (arith, f.balance b))) f.repr;
      good = f.good;
      settled = f.settled;
      balance = f.balance;
      unspent = f.unspent;
    }

-- what has to be shown of a step of p, which has not the lock before or after
pub record Locals (m : Mem) (g : Ghost) (trail : ℕ → List ℕ) (s : State) (c : Cpus) (p : ℕ) (m' : Mem) (s' : State) (work : Work) (own trail' : List ℕ) : Type 0 where
  pub touches : Touches m m' p
  pub table : s'.table ≡ s.table
  pub lead : s'.lead ≡ s.lead
  pub nows : (q : ℕ) → (q ≡ p → ⊥) → s'.now' q ≡ s.now' q
  pub free : holds (c.work p) ≡ false
  pub free' : holds work ≡ false
  pub small : p < m.cpus
  pub room : length own ≡ 4096
  pub reader : Reader m' g trail' p work own (s'.now' p)
  -- what is newly on its trail is not in limbo
  pub near : (b : ℕ) → 1 ≤ cnt b trail' → (1 ≤ cnt b (trail p)) ⊎ (limbo g b ≡ 0)

-- Then the invariant holds after it.
pub local_inv : {m : Mem} {k : Lock} {g : Ghost} {trail : ℕ → List ℕ} {s : State} {t : ℕ} {c : Cpus} {p : ℕ} {m' : Mem} {s' : State} {work : Work} {own trail' : List ℕ} →
    Inv m k g trail s t c → Locals m g trail s c p m' s' work own trail' → Inv m' k g (set_at p trail' trail) s' t (set_cpu p work own c)
local_inv {m} {k} {g} {trail} {s} {t} {c} {p} {m'} {s'} {work} {own} {trail'} i n = record {
  core = subst (λ rs. Core m' k.who k.held g rs t) (sym n.table) (touch_core n.touches i.core);
  readers = λ q. elim (eqb_tells q p) [
    | inl e ↦ subst (λ z. Reader m' g (set_at p trail' trail z) z (set_at p work c.work z) (set_at p own c.own z) (s'.now' z)) (sym e.1)
        (rw (set_at_hit p p trail' trail refl, set_at_hit p p work c.work refl, set_at_hit p p own c.own refl) n.reader)
    | inr e ↦ rw (e.0, n.nows q e.1) (reader_stays (leaves q e.1) (i.readers q))
  ];
  leads = rw n.lead i.leads;
  holding = λ q. elim (eqb_tells q p) [
    | inl e ↦ rw e.0 (n.free' ∙ (sym n.free ∙ (ap (λ z. holds (c.work z)) (sym e.1) ∙ i.holding q)))
    | inr e ↦ rw e.0 (i.holding q)
  ];
  outside = λ q l. elim (eqb_tells q p) [
    | inl e ↦ absurd (omega (arith, n.touches.cpus, n.small, e.1))
    | inr e ↦ rw e.0 (i.outside q (omega (arith, n.touches.cpus)))
  ];
  room = λ q l. elim (eqb_tells q p) [
    | inl e ↦ rw e.0 n.room
    | inr e ↦ rw e.0 (i.room q (omega (arith, n.touches.cpus)))
  ];
  writer = elim (eqb_tells k.who p) [
    | inl e ↦ rw e.0 (mine e.1).0
    | inr e ↦ rw e.0 (rw (touch_view k.who n.touches, hall_same, n.table, n.nows k.who e.1) i.writer)
  ];
  scanned = λ q b l. elim (eqb_tells k.who p) [
    | inl e ↦ absurd (let z : q < (passed m'.cpus work).many = rw e.0 at l in omega (arith, z, ap (λ x. x.many) (mine e.1).1))
    | inr e ↦ rw e.0 (others q b (rw (e.0, n.touches.cpus) at l))
  ];
}
  where
    hall_same : hall_of m' ≡ hall_of m
    hall_same = rw (n.touches.cpus, n.touches.blocks) refl

    leaves : (q : ℕ) → (q ≡ p → ⊥) → Leaves m g m' g (trail q) q
    leaves q ne = record {
      epochs = rw (n.touches.vals 0 2 (λ d. omega (arith, d.1))) (omega arith);
      active = n.touches.vals 0 (16 + q) (λ d. ne (omega (arith, d.1)));
      words = λ b w u l. n.touches.vals b w (λ d. omega (arith, d.1));
      safe = λ b u z. z;
      clear = λ b u z. inl (z, refl);
    }

    mine : k.who ≡ p → Writer (view k.who m') (hall_of m') g own s'.table (s'.now' k.who) work × (passed m'.cpus work ≡ nobody)
    mine e = rests_writer (view k.who m') (hall_of m') g own s'.table (s'.now' k.who) m'.cpus work n.free'
        (writer_rests (view k.who m) (hall_of m) g (c.own k.who) s.table (s.now' k.who) (c.work k.who) (ap (λ z. holds (c.work z)) e ∙ n.free) i.writer)

    others : (q b : ℕ) → q < (passed m.cpus (c.work k.who)).many → 1 ≤ cnt b (set_at p trail' trail q) → 1 ≤ limbo g b → (passed m'.cpus (c.work k.who)).limit ≤ g.stamps b
    others q b l u z = rw n.touches.cpus (elim (eqb_tells q p) [
      | inl d ↦ elim (n.near b (rw d.0 at u)) [ inl f ↦ i.scanned q b l (rw d.1 f) z | inr f ↦ absurd (omega arith) ]
      | inr d ↦ i.scanned q b l (rw d.0 at u) z
    ])
