-- The turns of Recycle: the oldest retired node becomes a fresh block, or there is none and the update is told full.
use Rattle.std.proofs.Common.{◌≡◌, ℕ, ◌+◌, ◌<◌, ◌≤◌, Bool, true, false, eqb, List, [], ◌∷◌, sym, refl, ap, ◌∙◌, subst, inl, inr, arith}
use Rattle.std.proofs.lemmas.Bool.Decides.{nat_tests, eqb_tells}
use Rattle.std.proofs.lemmas.Bool.{eq-eqb, ne_eqb, true≢false}
use Rattle.words.specs.Slots.{child_of}
use Rattle.words.proofs.Packing.{child_same}
use Rattle.routes.specs.declared.Answer.TheVariants.{Full as FullAnswer}
use Rattle.routes.specs.declared.update.job.Job.{Job}
use Rattle.routes.specs.declared.update.recycle.Recycle.TheVariants.{Head, RetiredAt, Next, SetHead, SetTail}
use Rattle.routes.specs.declared.update.scan.GracePeriod.{GracePeriod}
use Rattle.routes.specs.declared.update.Phase.TheVariants.{Recycle as InRecycle}
use Rattle.routes.specs.declared.work.Work.TheVariants.{Update as Updating}
use Rattle.routes.specs.Memory.{Mem, sees, counted, stored}
use Rattle.routes.specs.Routes.{Now, State, too_much}
use Rattle.routes.specs.Counts.Counts.{bit, cnt}
use Rattle.routes.specs.Late.View.{view}
use Rattle.routes.specs.Machine.Cpus.{work_of_update}
use Rattle.routes.specs.Machine.Jobs.{having}
use Rattle.routes.specs.Machine.Recycles.{recycle_after, recycle_words, oldest}
use Rattle.routes.specs.Invariant.Ghosts.{Ghost, heads}
use Rattle.routes.specs.Invariant.Memories.{Chain, Core}
use Rattle.routes.specs.Invariant.Readers.{Settled}
use Rattle.routes.specs.Invariant.Holders.{Oldest, AllUsed, got_blocks}
use Rattle.routes.specs.Invariant.Gathering.{Gathered, Gathers, RecycleFacts}
use Rattle.routes.specs.Invariant.Registers.{holds, holds_in, passed, passed_in, passed_recycle, passed_scan}
use Rattle.routes.specs.Invariant.Writers.{Writer, PhaseFacts, ScanFacts}
use Rattle.routes.specs.Invariant.Inv.{Inv, Cpus}
use Rattle.routes.proofs.Late.View.{open_block, view_open}
use Rattle.routes.proofs.Invariant.Rely.{Leaves, leaves_same}
use Rattle.routes.proofs.Invariant.Apart.{solid, used_small}
use Rattle.routes.proofs.Invariant.Chains.{chain_first, chain_none}
use Rattle.routes.proofs.Invariant.HeadRows.{heads_row}
use Rattle.routes.proofs.Invariant.HeadCores.{regroup, core_set, leaves_regroup}
use Rattle.routes.proofs.Invariant.HeadSights.{chain_follows, sight_head, sight_tail, last_kept}
use Rattle.routes.proofs.Invariant.FreshBlocks.{more, got_more}
use Rattle.routes.proofs.Invariant.Steps.{lock_of}
use Rattle.routes.proofs.Invariant.HolderSteps.{HolderStep, off_trail, loads}
use Rattle.routes.proofs.Invariant.Holding.{core_counted, holder_facts, holder_room, holder_scanned}
use Rattle.routes.proofs.Invariant.Gatherings.{gathered_more, gathers_on, undoes_on}
use Rattle.routes.proofs.Invariant.Needs.{need_few, full_is}

module _ {m : Mem} {g : Ghost} {trail : ℕ → List ℕ} {s : State} {t : ℕ} {c : Cpus} {p : ℕ} (i : Inv m (lock_of p true) g trail s t c) where
  -- What a chain begins with fits into a slot.
  pub chain_fits : (x : ℕ) (bs : List ℕ) → Chain (view p m) x bs → ((b : ℕ) → 1 ≤ cnt b bs → 1 ≤ cnt b g.chain) → child_of x ≡ x
  unfolding cnt
  chain_fits x bs l inside = elim (chain_first (view p m) x bs l) [
    | inl e ↦ child_same x (omega (arith, e.0))
    | inr e ↦ child_same x (used_small i.core x (let z : 1 ≤ cnt x g.chain = inside x (subst (λ ds. 1 ≤ cnt x ds) (sym e.1.1) (rw (eq-eqb x x refl) (omega arith))) in omega arith))
  ]

  -- The oldest retired node is one.
  pub oldest_in : (b : ℕ) → Oldest g b → 1 ≤ cnt b g.chain
  unfolding cnt
  oldest_in b e = subst (λ ds. 1 ≤ cnt b ds) (sym e.1) (rw (eq-eqb b b refl) (omega arith))

  -- What follows it is seen as it is, and fits into a slot.
  pub follower_fits : (b : ℕ) → Oldest g b → child_of (sees p b 32 m) ≡ view p m b 32
  unfolding cnt
  follower_fits b e =
      ap child_of (sym (view_open p m b 32 (open_block b 32 (solid i.core b (let z = oldest_in b e in omega arith))))) ∙
      chain_fits (view p m b 32) e.0 (chain_follows i.core.sight b (view p m b 32) e.0 e.1 refl) (λ d n. subst (λ ds. 1 ≤ cnt d ds) (sym e.1) (omega arith))

  -- Its stamp is seen as it is.
  pub stamp_seen : (b : ℕ) → Oldest g b → sees p b 31 m ≡ g.stamps b
  stamp_seen b e = sym (view_open p m b 31 (open_block b 31 (solid i.core b (let z = oldest_in b e in omega arith)))) ∙ (i.core.sight.stamped b (oldest_in b e)).0

  -- Where LIMBO_HEAD is 0 nothing is linked.
  pub head_none : sees p 0 3 m ≡ 0 → g.chain ≡ []
  head_none e = chain_none (view p m) _ g.chain i.core.sight.linked (view_open p m 0 3 refl ∙ e)

  -- Else it is the oldest retired node.
  pub head_oldest : (sees p 0 3 m ≡ 0 → ⊥) → Oldest g (sees p 0 3 m)
  head_oldest n = elim (chain_first (view p m) (view p m 0 3) g.chain i.core.sight.linked) [
    | inl e ↦ absurd (n (sym (view_open p m 0 3 refl) ∙ e.0))
    | inr e ↦ (e.1.0, e.1.1 ∙ ap (λ z. z ∷ e.1.0) (view_open p m 0 3 refl))
  ]

  -- Either way it fits into a slot.
  pub head_fits : child_of (sees p 0 3 m) ≡ sees p 0 3 m
  head_fits = subst (λ z. child_of z ≡ z) (view_open p m 0 3 refl) (chain_fits (view p m 0 3) g.chain i.core.sight.linked (λ b n. n))

module _ {m : Mem} {g : Ghost} {trail : ℕ → List ℕ} {s : State} {t : ℕ} {c : Cpus} {p : ℕ} (i : Inv m (lock_of p true) g trail s t c) (j : Job) where
  -- its own words
  abbrev o : List ℕ
  o = c.own p

  module _ (e : c.work p ≡ Updating j (InRecycle Head)) where
    -- What is known where the pool has no block.
    pub head_facts : Gathers g o s.table (s.now' p) j × AllUsed m.blocks g
    unfolding PhaseFacts RecycleFacts
    head_facts = holder_facts i j (InRecycle Head) e

    -- There is a retired node.
    pub head_step : (sees p 0 3 m ≡ 0 → ⊥) → HolderStep m p g trail s.table t (s.now' p) (counted m) o (work_of_update (recycle_after j Head (sees p 0 3 m)))
    unfolding Writer PhaseFacts RecycleFacts holds holds_in passed passed_in passed_recycle
    head_step n = subst (λ x. HolderStep m p g trail s.table t (s.now' p) (counted m) o (work_of_update (oldest j x))) (sym (head_fits i))
        (rw (ne_eqb (sees p 0 3 m) 0 n)
        (loads i (s.now' p) o (Updating j (InRecycle (RetiredAt (sees p 0 3 m)))) (head_facts.0, head_oldest i n) (λ q b l. absurd (omega arith)) refl))

    -- There is none: then the routes before and after are more than the pool surely has room for.
    pub head_full : sees p 0 3 m ≡ 0 → too_much m.blocks s.table head_facts.0.gathered.qs ≡ true
    head_full z = full_is head_facts.0.gathered.sure m.blocks g i.core.good head_facts.1 (head_none i z) head_facts.0.gathered.has.loose head_facts.0.gathered.has.fresh head_facts.0.wants'

    -- And what was got goes back, once it has taken effect that the update is told full.
    pub full_step : (n : Now) → Settled FullAnswer n → sees p 0 3 m ≡ 0 → HolderStep m p g trail s.table t n (counted m) o (work_of_update (recycle_after j Head (sees p 0 3 m)))
    full_step n over z = subst (λ x. HolderStep m p g trail s.table t n (counted m) o (work_of_update (oldest j x))) (sym (head_fits i ∙ z))
        (undoes_on g j (core_counted i.core) (λ q. leaves_same g (trail q) q refl)
        (record { has = head_facts.0.gathered.has; whole = head_facts.0.whole; full = over; few = omega (arith, head_facts.0.wants', need_few head_facts.0.gathered.sure) }))

  -- The stamp of the oldest node: on to the scan for it.
  pub retired_at_step : (b : ℕ) → c.work p ≡ Updating j (InRecycle (RetiredAt b)) →
      HolderStep m p g trail s.table t (s.now' p) (counted m) o (work_of_update (recycle_after j (RetiredAt b) (sees p b 31 m)))
  unfolding Writer PhaseFacts RecycleFacts ScanFacts holds holds_in passed passed_in passed_scan
  retired_at_step b e =
      loads i (s.now' p) o _
      (record { gathers = d.0; oldest = d.1; stamped = sym (stamp_seen i b d.1); here = i.core.sizes.someone }) (λ q a l. absurd (omega arith)) refl
    where
      d : Gathers g o s.table (s.now' p) j × Oldest g b
      d = holder_facts i j (InRecycle (RetiredAt b)) e

  -- What follows it.
  pub next_step : (b : ℕ) (grace : GracePeriod) → c.work p ≡ Updating j (InRecycle (Next b grace)) →
      HolderStep m p g trail s.table t (s.now' p) (counted m) o (work_of_update (recycle_after j (Next b grace) (sees p b 32 m)))
  unfolding Writer PhaseFacts RecycleFacts holds holds_in passed passed_in passed_recycle
  next_step b grace e =
      loads i (s.now' p) o _ (d.0, d.1, d.2, sym (follower_fits i b d.1)) (holder_scanned i _ _ e) refl
    where
      d : Gathers g o s.table (s.now' p) j × Oldest g b × (g.stamps b < grace.before)
      d = holder_facts i j (InRecycle (Next b grace)) e

  module _ (b next : ℕ) (grace : GracePeriod) (e : c.work p ≡ Updating j (InRecycle (SetHead b next grace))) where
    -- What is known of the node that is to leave the chain.
    known : Gathers g o s.table (s.now' p) j × Oldest g b × (g.stamps b < grace.before) × (view p m b 32 ≡ next)
    unfolding PhaseFacts RecycleFacts
    known = holder_facts i j (InRecycle (SetHead b next grace)) e

    -- There is room for one more among the own words.
    pub reuse_few : j.got < 72
    reuse_few = omega (arith, need_few known.0.gathered.sure, known.0.wants')

    -- the node has left the chain and is fresh
    abbrev recycled : Bool → Ghost
    recycled torn = regroup g known.1.0 [] (got_blocks (more o j b (holder_room i) reuse_few) (having (j.got + 1) j)) torn heads

    -- It is the first of the chain.
    in_chain : (d : ℕ) → cnt d g.chain ≡ bit (eqb d b) + cnt d known.1.0
    unfolding cnt
    in_chain d = ap (cnt d) known.1.1

    -- Nothing is loose.
    none_loose : (d : ℕ) → cnt d g.loose ≡ 0
    unfolding cnt
    none_loose d = ap (cnt d) known.0.gathered.has.loose

    -- What holds of the memory then.
    core' : (torn : Bool) → (torn ≡ false → next ≡ 0 → ⊥) → Core (counted (stored p 0 3 next m)) p true (recycled torn) s.table t
    unfolding cnt
    core' torn real = core_set i.core (heads_row m p true g s.table t i.core known.0.gathered.has.row) 3 next known.1.0 [] _ torn (omega arith) (omega arith)
        (λ d. (let z : cnt d g.fresh ≡ cnt d (got_blocks o j) = ap (cnt d) known.0.gathered.has.fresh in omega (arith, in_chain d, none_loose d, got_more o j b (holder_room i) reuse_few d)))
        (sight_head i.core.sight b next known.1.0 [] _ torn known.1.1 known.3 (λ w. last_kept i.core.sight b next known.1.0 known.1.1 known.3 (real w) known.0.whole) (λ d n. absurd (omega arith)))

    -- It is on nobody's trail, so no lookup sees it.
    leaves' : (torn : Bool) (q : ℕ) → Leaves m g (counted (stored p 0 3 next m)) (recycled torn) (trail q) q
    unfolding cnt passed passed_in passed_recycle
    leaves' torn q = leaves_regroup m _ g known.1.0 [] _ torn heads (trail q) q refl (λ d a. elim (eqb_tells d b) [
      | inl y ↦ absurd (off_trail i _ _ grace.before b e refl (let z = oldest_in i b known.1 in omega arith) known.2 q (subst (λ z. 1 ≤ cnt z (trail q)) y.1 a))
      | inr y ↦ (let x = in_chain d in let w = none_loose d in grind (arith, nat_tests))
    ])

    -- One block more is got.
    facts' : (torn : Bool) → Gathered (recycled torn) (more o j b (holder_room i) reuse_few) s.table (s.now' p) (having (j.got + 1) j)
    facts' torn = gathered_more (holder_room i) reuse_few known.0 b (record { row = refl; loose = refl; fresh = refl })

    -- The node leaves the chain and is fresh, in one store.
    pub set_head_step : HolderStep m p g trail s.table t (s.now' p) (counted (stored p 0 3 next m)) (recycle_words j (SetHead b next grace) o 0) (work_of_update (recycle_after j (SetHead b next grace) 0))
    unfolding Writer PhaseFacts RecycleFacts holds holds_in passed passed_in passed_recycle
    set_head_step = elim (eqb_tells next 0) [
      | inl y ↦ rw y.0 (record {
        ghost = recycled true;
        core = core' true (λ w. absurd (true≢false w));
        leaves = leaves' true;
        facts = (facts' true, chain_none (view p m) next known.1.0 (chain_follows i.core.sight b next known.1.0 known.1.1 known.3) y.1);
        scanned = λ q d l. absurd (omega arith);
        holding = refl;
      })
      | inr y ↦ rw y.0 (gathers_on (recycled false) (having (j.got + 1) j) (core' false (λ w. y.1)) (leaves' false) (facts' false) refl)
    ]

  -- It was the last: LIMBO_TAIL says so.
  pub set_tail_step : c.work p ≡ Updating j (InRecycle SetTail) → HolderStep m p g trail s.table t (s.now' p) (counted (stored p 0 4 0 m)) o (work_of_update (recycle_after j SetTail 0))
  unfolding PhaseFacts RecycleFacts cnt
  set_tail_step e =
      gathers_on (regroup g [] g.loose g.fresh false heads) j
      (core_set i.core (heads_row m p true g s.table t i.core d.0.has.row) 4 0 [] g.loose g.fresh false (omega arith) (omega arith) (λ b. omega (arith, none b)) (sight_tail i.core.sight d.1))
      (λ q. leaves_regroup m _ g [] g.loose g.fresh false heads (trail q) q refl (λ b a. omega (arith, none b)))
      (record { has = record { row = refl; loose = d.0.has.loose; fresh = d.0.has.fresh }; ps = d.0.ps; qs = d.0.qs; awaits = d.0.awaits; sure = d.0.sure; enough = d.0.enough; used = d.0.used; retired = d.0.retired })
      refl
    where
      d : Gathered g o s.table (s.now' p) j × (g.chain ≡ [])
      d = holder_facts i j (InRecycle SetTail) e

      none : (b : ℕ) → cnt b g.chain ≡ 0
      none b = ap (cnt b) d.1
