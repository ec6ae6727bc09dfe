-- The new root arrives: the moment of a change that is done.
use Rattle.std.proofs.Common.{◌≡◌, ℕ, ◌+◌, ◌<◌, ◌≤◌, true, cond, leb, List, [], ◌∷◌, sym, refl, ap, ◌∙◌, subst, inl, inr, arith}
use Rattle.std.proofs.lemmas.Bool.Decides.{nat_tests as tests, eqb_tells, leb_tells}
use Rattle.routes.specs.declared.Answer.TheVariants.{Done}
use Rattle.routes.specs.declared.Ask.TheVariants.{Change}
use Rattle.routes.specs.declared.update.Phase.TheVariants.{Publish}
use Rattle.routes.specs.declared.update.publish.Publish.TheVariants.{FenceRoot}
use Rattle.routes.specs.declared.work.Work.{Work}
use Rattle.routes.specs.declared.work.Work.TheVariants.{Update as Updating}
use Rattle.routes.specs.Memory.{Mem}
use Rattle.routes.specs.Routes.{Route, Event, Over, State, Run}
use Rattle.routes.specs.Counts.Counts.{cnt}
use Rattle.routes.specs.Late.Rows.{store_of}
use Rattle.routes.specs.Late.Steps.{landed}
use Rattle.routes.specs.Late.View.{view}
use Rattle.routes.specs.Run.Nows.{is_change}
use Rattle.routes.specs.Run.Steps.{settled_at}
use Rattle.routes.specs.Tree.Trees.{Tree, block_of, count}
use Rattle.routes.specs.Invariant.Ghosts.{Ghost, still, limbo}
use Rattle.routes.specs.Invariant.Holders.{rest_blocks, replaced_blocks}
use Rattle.routes.specs.Invariant.Memories.{Ripe, RowOk, Core}
use Rattle.routes.specs.Invariant.Building.{PublishFacts}
use Rattle.routes.specs.Invariant.Readers.{Updates, Does, Reader}
use Rattle.routes.specs.Invariant.Registers.{passed, passed_in}
use Rattle.routes.specs.Invariant.Writers.{PhaseFacts, Writer, hall_of}
use Rattle.routes.specs.Invariant.Inv.{Lock, Cpus, Inv}
use Rattle.routes.proofs.Basics.Places.{set_val_hit, set_val_miss}
use Rattle.routes.proofs.Late.Only.{row-landed, only_landed}
use Rattle.routes.proofs.Late.View.{view-landed}
use Rattle.routes.proofs.Repr.Nodes.{repr_stays}
use Rattle.routes.proofs.Run.Make.{settle_done}
use Rattle.routes.proofs.Run.Steps.{now_own, now_other}
use Rattle.routes.proofs.Invariant.Apart.{once}
use Rattle.routes.proofs.Invariant.Rely.{Leaves, reader_stays}
use Rattle.routes.proofs.Invariant.Ripening.{RipeAt}

module _ {m : Mem} {k : Lock} {g : Ghost} {trail : ℕ → List ℕ} {s : State} {t : ℕ} {c : Cpus} (i : Inv m k g trail s t c) (a : RipeAt g (c.own k.who) s.table (s.now' k.who) (c.work k.who)) where
  -- the new tree, what it replaces, what it leaves, and its table
  abbrev new : Tree
  new = a.ripens.W

  abbrev gone : List ℕ
  gone = replaced_blocks (c.own k.who) a.job

  abbrev left : List ℕ
  left = rest_blocks (c.own k.who) a.job

  abbrev table' : List Route
  table' = a.ripens.qs

  abbrev pub after : Mem
  after = landed k.who (store_of 0 1 (block_of new)) [] m

  -- the new tree is published; what it replaces is retired in the epoch that the holder sees
  abbrev pub published : Ghost
  published = record { tree = new; chain = g.chain; loose = gone; fresh = left; stamps = λ b. cond (leb 1 (cnt b gone)) (view k.who m 0 2) (g.stamps b); torn = g.torn; row = still }

  -- the change takes effect
  abbrev pub settled : State
  settled = settled_at k.who (Change a.ripens.awaits.0) Done a.ripens.awaits.1 table' s

  -- What is said of the late root.
  row : Ripe m k.who g new gone left table'
  unfolding RowOk
  row = subst (λ z. RowOk z m k.who g (view k.who m 0 2)) a.ripens.row i.core.row

  -- The root alone is late.
  pub root_late : m.late k.who ≡ store_of 0 1 (block_of new) ∷ []
  root_late = row.late

  -- All other words stay.
  kept : (b w : ℕ) → ((b ≡ 0) × (w ≡ 1) → ⊥) → after.val b w ≡ m.val b w
  kept b w ne = set_val_miss 0 1 (block_of new) m.val b w ne

  -- Words of the header but for ROOT.
  header_kept : (w : ℕ) → (w ≡ 1 → ⊥) → after.val 0 w ≡ m.val 0 w
  header_kept w ne = kept 0 w (λ e. ne e.1)

  -- Nothing was loose.
  none_loose : (b : ℕ) → cnt b g.loose ≡ 0
  unfolding cnt
  none_loose b = ap (cnt b) row.settled

  -- The header is in neither tree.
  trees_solid : (b : ℕ) → 1 ≤ count b new + (count b g.tree + limbo g b) → b ≡ 0 → ⊥
  trees_solid b u z = let e = once i.core b in let d = row.balance b in let f = row.unspent b in grind (arith, tests)

  -- What is linked is not replaced.
  pub gone_apart : (b : ℕ) → 1 ≤ cnt b g.chain → cnt b gone ≡ 0
  gone_apart b u = omega (arith, once i.core b, row.balance b, row.unspent b)

  -- The view stays.
  seen : view k.who after ≡ view k.who m
  seen = view-landed k.who (store_of 0 1 (block_of new)) [] m root_late

  -- What holds of the memory.
  moment_core : Core after k.who k.held published table' t
  unfolding RowOk
  moment_core = record {
    sizes = record { someone = i.core.sizes.someone; cpus = i.core.sizes.cpus; blocks = i.core.sizes.blocks };
    others = only_landed k.who (store_of 0 1 (block_of new)) [] m i.core.others;
    row = row-landed k.who (store_of 0 1 (block_of new)) [] m;
    writer = header_kept 0 (λ e. omega (arith, e)) ∙ i.core.writer;
    root = set_val_hit 0 1 (block_of new) m.val;
    repr = repr_stays m.val after.val new (λ b w u l. kept b w (λ e. trees_solid b (omega arith) e.0)) row.repr;
    good = row.good;
    blocks = λ b. omega (arith, i.core.blocks b, row.balance b, row.unspent b, none_loose b);
    inside = i.core.inside;
    sight = rw seen (record {
      ahead = rw (header_kept 2 (λ e. omega (arith, e))) i.core.sight.ahead;
      early = i.core.sight.early;
      linked = i.core.sight.linked;
      ending = i.core.sight.ending;
      stamped = λ b u. (let n = gone_apart b u in let o = i.core.sight.stamped b u in grind (arith, tests));
      newest = λ b u. (let d = u in grind (arith, tests));
    });
  }

  -- No reader is disturbed: what it may still touch and is replaced now has the newest stamp.
  moment_leaves : (q : ℕ) → Leaves m g after published (trail q) q
  moment_leaves q = record {
    epochs = rw (header_kept 2 (λ e. omega (arith, e))) (omega arith);
    active = header_kept (16 + q) (λ e. omega (arith, e));
    words = λ b w u l. kept b w (λ e. trees_solid b (omega (arith, (i.readers q).safe b u)) e.0);
    safe = λ b u z. omega (arith, once i.core b, row.balance b, row.unspent b, none_loose b);
    clear = λ b u z. elim (leb_tells 1 (cnt b gone)) [
      | inl y ↦ inr (rw y.0 i.core.sight.ahead)
      | inr y ↦ inl (omega (arith, y.1), rw y.0 refl)
    ];
  }

  -- What the holder has under way now.
  now_is : settled.now' k.who ≡ Over (Change a.ripens.awaits.0) Done a.ripens.awaits.1
  now_is = now_own k.who (Over (Change a.ripens.awaits.0) Done a.ripens.awaits.1) table' s

  -- The holder still has a change under way.
  does_on : (w : Work) → w ≡ Updating a.job (Publish FenceRoot) → Does after.val w (c.own k.who) (trail k.who) (s.now' k.who) → Does after.val w (c.own k.who) (trail k.who) (settled.now' k.who)
  unfolding Does Updates is_change
  does_on w e d =
      let d' : (trail k.who ≡ []) × (is_change (s.now' k.who) ≡ true) = rw e at d in
      rw e (d'.0, ap is_change now_is)

  -- Readers, the holder among them.
  moment_reader : (q : ℕ) → Reader after published (trail q) q (c.work q) (c.own q) (settled.now' q)
  moment_reader q = elim (eqb_tells q k.who) [
    | inl e ↦ subst (λ z. Reader after published (trail z) z (c.work z) (c.own z) (settled.now' z)) (sym e.1) mine
    | inr e ↦ subst (λ z. Reader after published (trail q) q (c.work q) (c.own q) z) (sym (now_other k.who q _ table' s e.1)) (stays q)
  ]
    where
      stays : (q : ℕ) → Reader after published (trail q) q (c.work q) (c.own q) (s.now' q)
      stays q = reader_stays (moment_leaves q) (i.readers q)

      mine : Reader after published (trail k.who) k.who (c.work k.who) (c.own k.who) (settled.now' k.who)
      mine = record { active = (stays k.who).active; old = (stays k.who).old; does = does_on (c.work k.who) a.is (stays k.who).does; safe = (stays k.who).safe; clear = (stays k.who).clear }

  -- The facts of the holder.
  moment_writer : Writer (view k.who after) (hall_of after) published (c.own k.who) table' (settled.now' k.who) (c.work k.who)
  unfolding Writer PhaseFacts PublishFacts
  moment_writer = rw (a.is, seen) (
    a.whole,
    a.spent,
    a.few,
    a.short,
    inr (record {
      has = record { row = refl; loose = refl; fresh = refl };
      done = (a.ripens.awaits.0, a.ripens.awaits.1, now_is);
      stamps = λ b u. (let d = u in grind (arith, tests));
    }),
  )

  -- The invariant after the moment.
  pub moment_inv : Inv after k published trail settled t c
  unfolding passed passed_in
  moment_inv = record {
    core = moment_core;
    readers = moment_reader;
    leads = i.leads;
    holding = i.holding;
    outside = i.outside;
    room = i.room;
    writer = moment_writer;
    scanned = λ q b u. absurd (let z : q < 0 = rw a.is at u in omega arith);
  }

  -- The change took effect.
  pub moment_run : {cpus blocks : ℕ} {es : List Event} → Run cpus blocks es s → Run cpus blocks es settled
  moment_run r = settle_done r k.who a.ripens.awaits.0 a.ripens.ps a.ripens.awaits.1 table' a.ripens.awaits.2 a.ripens.sure.makes
