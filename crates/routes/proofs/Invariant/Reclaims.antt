-- The turns of Reclaim and Finish: the oldest retired nodes go back to the pool, and so do fresh blocks that were not used.
use Rattle.std.proofs.Common.{◌≡◌, ℕ, ◌+◌, ◌<◌, ◌≤◌, Bool, true, false, eqb, ltb, List, [], ◌∷◌, sym, refl, ap, ◌∙◌, subst, inl, inr, arith}
use Rattle.std.proofs.lemmas.Bool.Decides.{nat_tests, eqb_tells}
use Rattle.std.proofs.lemmas.Bool.{cases_Bool, cases_lt, eq-eqb, lt-ltb, le-ltb, true≢false}
use Rattle.own.specs.Layout.{words_of, fresh_at}
use Rattle.words.proofs.Packing.{child_same}
use Rattle.routes.specs.declared.update.job.Job.{Job}
use Rattle.routes.specs.declared.update.finish.Finish.TheVariants.{Unused}
use Rattle.routes.specs.declared.update.reclaim.Reclaim.TheVariants.{Head, RetiredAt, Next, SetHead, SetTail, Release}
use Rattle.routes.specs.declared.update.scan.GracePeriod.{GracePeriod}
use Rattle.routes.specs.declared.update.Phase.{Phase}
use Rattle.routes.specs.declared.update.Phase.TheVariants.{Reclaim as InReclaim, Finish as InFinish}
use Rattle.routes.specs.declared.work.Work.TheVariants.{Update as Updating}
use Rattle.routes.specs.Memory.{Mem, sees, counted, stored, released}
use Rattle.routes.specs.Routes.{Route, Now, State}
use Rattle.routes.specs.Counts.Counts.{bit, cnt}
use Rattle.routes.specs.Late.View.{view}
use Rattle.routes.specs.Machine.Cpus.{work_of_update}
use Rattle.routes.specs.Machine.Finishes.{finishing, finish_after}
use Rattle.routes.specs.Machine.Jobs.{using'}
use Rattle.routes.specs.Machine.Obtains.{fresh_in}
use Rattle.routes.specs.Machine.Reclaims.{reclaim_after}
use Rattle.routes.specs.Invariant.Ghosts.{Ghost, heads, limbo}
use Rattle.routes.specs.Invariant.Memories.{Core}
use Rattle.routes.specs.Invariant.Holders.{Oldest, rest_blocks}
use Rattle.routes.specs.Invariant.Retiring.{Retires, Reclaims, ReclaimFacts, FinishFacts}
use Rattle.routes.specs.Invariant.Registers.{holds, holds_in, passed, passed_in, passed_reclaim}
use Rattle.routes.specs.Invariant.Writers.{Writer, PhaseFacts}
use Rattle.routes.specs.Invariant.Inv.{Inv, Cpus}
use Rattle.routes.proofs.Invariant.Rely.{Leaves, leaves_same}
use Rattle.routes.proofs.Invariant.Apart.{uses, used_small}
use Rattle.routes.proofs.Invariant.Chains.{chain_none}
use Rattle.routes.proofs.Invariant.HeadRows.{heads_row}
use Rattle.routes.proofs.Invariant.HeadCores.{regroup, core_set, core_release, leaves_regroup}
use Rattle.routes.proofs.Invariant.HeadSights.{chain_follows, sight_head, sight_tail, last_kept}
use Rattle.routes.proofs.Invariant.FreshBlocks.{rest_less, rest_first, fresh_used}
use Rattle.routes.proofs.Invariant.Holding.{core_counted, holder_facts, holder_scanned}
use Rattle.routes.proofs.Invariant.Steps.{lock_of}
use Rattle.routes.proofs.Invariant.HolderSteps.{HolderStep, off_trail, loads}
use Rattle.routes.proofs.Invariant.Recycles.{follower_fits, stamp_seen, head_oldest, head_fits}

-- Where nothing is left to reclaim, the rest of the fresh blocks goes back, or the update is over.
finishes_on : {m : Mem} {p : ℕ} {g : Ghost} {trail : ℕ → List ℕ} {rs : List Route} {t : ℕ} {n : Now} {m' : Mem} {own : List ℕ} (g' : Ghost) (j : Job) → Core m' p true g' rs t → ((q : ℕ) → Leaves m g m' g' (trail q) q) →
    Reclaims g' own n j → HolderStep m p g trail rs t n m' own (Updating j (finishing j))
unfolding Writer PhaseFacts FinishFacts holds holds_in passed passed_in
finishes_on g' j core leaves f = elim (cases_lt j.used j.got) [
  | inl l ↦ rw (lt-ltb j.used j.got l) (record { ghost = g'; core = core; leaves = leaves; facts = (f, l); scanned = λ q b i. absurd (omega arith); holding = refl })
  | inr l ↦ rw (le-ltb j.used j.got l) (record { ghost = g'; core = core; leaves = leaves; facts = (f, l); scanned = λ q b i. absurd (omega arith); holding = refl })
]

module _ {m : Mem} {g : Ghost} {trail : ℕ → List ℕ} {s : State} {t : ℕ} {c : Cpus} {p : ℕ} (i : Inv m (lock_of p true) g trail s t c) (j : Job) where
  -- its own words
  abbrev o : List ℕ
  o = c.own p

  -- what follows by the reply is a step after which the memory is m'
  abbrev Goes : Mem → Phase → Type 0
  Goes m' ph = HolderStep m p g trail s.table t (s.now' p) m' o (Updating j ph)

  module _ (grace : GracePeriod) (left : ℕ) where
    -- A look at the head of limbo.
    pub head_step : c.work p ≡ Updating j (InReclaim (Head grace left)) → Goes (counted m) (reclaim_after j (Head grace left) (sees p 0 3 m))
    unfolding Writer PhaseFacts ReclaimFacts holds holds_in passed passed_in passed_reclaim
    head_step e = rw (head_fits i) (elim (eqb_tells (sees p 0 3 m) 0) [
      | inl z ↦ rw z.0 (finishes_on g j (core_counted i.core) (λ q. leaves_same g (trail q) q refl) f)
      | inr z ↦ rw z.0 (loads i (s.now' p) o _ (f, head_oldest i z.1) (holder_scanned i _ _ e) refl)
    ])
      where
        f : Reclaims g o (s.now' p) j
        f = holder_facts i j (InReclaim (Head grace left)) e

    -- A look at its stamp.
    pub retired_at_step : (b : ℕ) → c.work p ≡ Updating j (InReclaim (RetiredAt grace left b)) → Goes (counted m) (reclaim_after j (RetiredAt grace left b) (sees p b 31 m))
    unfolding Writer PhaseFacts ReclaimFacts holds holds_in passed passed_in passed_reclaim
    retired_at_step b e = rw (stamp_seen i b f.1) (elim (cases_lt (g.stamps b) grace.before) [
      | inl l ↦ rw (lt-ltb _ _ l) (loads i (s.now' p) o _ (f.0, f.1, l) (holder_scanned i _ _ e) refl)
      | inr l ↦ rw (le-ltb _ _ l) (finishes_on g j (core_counted i.core) (λ q. leaves_same g (trail q) q refl) f.0)
    ])
      where
        f : Reclaims g o (s.now' p) j × Oldest g b
        f = holder_facts i j (InReclaim (RetiredAt grace left b)) e

    -- A look at what follows it.
    pub next_step : (b : ℕ) → c.work p ≡ Updating j (InReclaim (Next grace left b)) → Goes (counted m) (reclaim_after j (Next grace left b) (sees p b 32 m))
    unfolding Writer PhaseFacts ReclaimFacts holds holds_in passed passed_in passed_reclaim
    next_step b e = loads i (s.now' p) o _ (f.0, f.1, f.2, sym (follower_fits i b f.1)) (holder_scanned i _ _ e) refl
      where
        f : Reclaims g o (s.now' p) j × Oldest g b × (g.stamps b < grace.before)
        f = holder_facts i j (InReclaim (Next grace left b)) e

    module _ (b next : ℕ) (e : c.work p ≡ Updating j (InReclaim (SetHead grace left b next))) where
      -- What is known of the node that is to leave the chain.
      known : Reclaims g o (s.now' p) j × Oldest g b × (g.stamps b < grace.before) × (view p m b 32 ≡ next)
      unfolding PhaseFacts ReclaimFacts
      known = holder_facts i j (InReclaim (SetHead grace left b next)) e

      -- the node has left the chain
      abbrev cut : Bool → Ghost
      cut torn = regroup g known.1.0 (b ∷ []) g.fresh torn heads

      -- It stays in limbo.
      same_limbo : (d : ℕ) → cnt d known.1.0 + cnt d (b ∷ []) ≡ limbo g d
      unfolding cnt
      same_limbo d = let x : cnt d g.chain ≡ bit (eqb d b) + cnt d known.1.0 = ap (cnt d) known.1.1 in let y : cnt d g.loose ≡ 0 = ap (cnt d) known.0.retires.has.loose in omega arith

      -- What holds of the memory then.
      core' : (torn : Bool) → (torn ≡ false → next ≡ 0 → ⊥) → Core (counted (stored p 0 3 next m)) p true (cut torn) s.table t
      core' torn real = core_set i.core (heads_row m p true g s.table t i.core known.0.retires.has.row) 3 next known.1.0 (b ∷ []) g.fresh torn (omega arith) (omega arith)
          (λ d. omega (arith, same_limbo d))
          (sight_head i.core.sight b next known.1.0 (b ∷ []) g.fresh torn known.1.1 known.3 (λ w. last_kept i.core.sight b next known.1.0 known.1.1 known.3 (real w) known.0.whole) (λ d n. omega (arith, same_limbo d)))

      -- No lookup sees it.
      leaves' : (torn : Bool) (q : ℕ) → Leaves m g (counted (stored p 0 3 next m)) (cut torn) (trail q) q
      leaves' torn q = leaves_regroup m _ g known.1.0 (b ∷ []) g.fresh torn heads (trail q) q refl (λ d a. same_limbo d)

      -- The node alone is loose.
      facts' : (torn : Bool) → Retires (cut torn) o (s.now' p) j heads (b ∷ [])
      facts' torn = record { has = record { row = refl; loose = refl; fresh = known.0.retires.has.fresh }; done = known.0.retires.done; spent = known.0.retires.spent; few = known.0.retires.few; short = known.0.retires.short }

      -- What the scan has passed it still has.
      scanned' : (torn : Bool) (q d : ℕ) → q < m.cpus → 1 ≤ cnt d (trail q) → 1 ≤ limbo (cut torn) d → grace.before ≤ g.stamps d
      unfolding passed passed_in passed_reclaim
      scanned' torn q d l a z = holder_scanned i _ _ e q d l a (omega (arith, same_limbo d))

      -- The node leaves the chain.
      pub set_head_step : Goes (counted (stored p 0 3 next m)) (reclaim_after j (SetHead grace left b next) 0)
      unfolding Writer PhaseFacts ReclaimFacts holds holds_in passed passed_in passed_reclaim
      set_head_step = elim (eqb_tells next 0) [
        | inl y ↦ rw y.0 (record {
          ghost = cut true;
          core = core' true (λ w. absurd (true≢false w));
          leaves = leaves' true;
          facts = (facts' true, chain_none (view p m) next known.1.0 (chain_follows i.core.sight b next known.1.0 known.1.1 known.3) y.1, known.2);
          scanned = scanned' true;
          holding = refl;
        })
        | inr y ↦ rw y.0 (record { ghost = cut false; core = core' false (λ w. y.1); leaves = leaves' false; facts = (facts' false, refl, known.2); scanned = scanned' false; holding = refl })
      ]

    -- It was the last: LIMBO_TAIL says so.
    pub set_tail_step : (b : ℕ) → c.work p ≡ Updating j (InReclaim (SetTail grace left b)) → Goes (counted (stored p 0 4 0 m)) (reclaim_after j (SetTail grace left b) 0)
    unfolding Writer PhaseFacts ReclaimFacts holds holds_in passed passed_in passed_reclaim cnt
    set_tail_step b e = record {
      ghost = regroup g [] g.loose g.fresh false heads;
      core = core_set i.core (heads_row m p true g s.table t i.core f.0.has.row) 4 0 [] g.loose g.fresh false (omega arith) (omega arith) (λ d. omega (arith, none d)) (sight_tail i.core.sight f.1);
      leaves = λ q. leaves_regroup m _ g [] g.loose g.fresh false heads (trail q) q refl (λ d a. omega (arith, none d));
      facts = (record { has = record { row = refl; loose = f.0.has.loose; fresh = f.0.has.fresh }; done = f.0.done; spent = f.0.spent; few = f.0.few; short = f.0.short }, refl, f.2);
      scanned = λ q d l a z. holder_scanned i _ _ e q d l a (omega (arith, none d));
      holding = refl;
    }
      where
        f : Retires g o (s.now' p) j heads (b ∷ []) × (g.chain ≡ []) × (g.stamps b < grace.before)
        f = holder_facts i j (InReclaim (SetTail grace left b)) e

        none : (d : ℕ) → cnt d g.chain ≡ 0
        none d = ap (cnt d) f.1

    module _ (b : ℕ) (e : c.work p ≡ Updating j (InReclaim (Release grace left b))) where
      -- What is known of the node that is to go back.
      gives : Retires g o (s.now' p) j heads (b ∷ []) × (g.torn ≡ false) × (g.stamps b < grace.before)
      unfolding PhaseFacts ReclaimFacts
      gives = holder_facts i j (InReclaim (Release grace left b)) e

      -- the node is gone
      abbrev gone : Ghost
      gone = regroup g g.chain [] g.fresh g.torn heads

      -- It alone is loose.
      loose_is : (d : ℕ) → cnt d g.loose ≡ bit (eqb d b)
      unfolding cnt
      loose_is d = ap (cnt d) gives.0.has.loose ∙ (omega arith)

      -- What holds of the memory then.
      core_gone : Core (counted (released b m)) p true gone s.table t
      unfolding cnt
      core_gone = core_release i.core (heads_row m p true g s.table t i.core gives.0.has.row) b [] g.fresh (λ d. omega (arith, loose_is d)) (λ d. omega arith)

      -- It is on nobody's trail.
      leaves_gone : (q : ℕ) → Leaves m g (counted (released b m)) gone (trail q) q
      unfolding cnt passed passed_in passed_reclaim
      leaves_gone q = leaves_regroup m _ g g.chain [] g.fresh g.torn heads (trail q) q refl (λ d a. elim (eqb_tells d b) [
        | inl y ↦ absurd (off_trail i _ _ grace.before b e refl (let z = loose_is b in let w = eq-eqb b b refl in grind (arith, nat_tests)) gives.2 q (subst (λ z. 1 ≤ cnt z (trail q)) y.1 a))
        | inr y ↦ (let x = loose_is d in grind (arith, nat_tests))
      ])

      -- Nothing is loose then.
      left_over : Reclaims gone o (s.now' p) j
      left_over = record { retires = record { has = record { row = refl; loose = refl; fresh = gives.0.has.fresh }; done = gives.0.done; spent = gives.0.spent; few = gives.0.few; short = gives.0.short }; whole = gives.1 }

      -- The node is given back.
      pub release_step : Goes (counted (released b m)) (reclaim_after j (Release grace left b) 0)
      unfolding Writer PhaseFacts ReclaimFacts holds holds_in passed passed_in passed_reclaim cnt
      release_step = elim (cases_Bool (ltb 1 left)) [
        | inl y ↦ rw y (record { ghost = gone; core = core_gone; leaves = leaves_gone; facts = left_over; scanned = λ q d l a z. holder_scanned i _ _ e q d l a (omega arith); holding = refl })
        | inr y ↦ rw y (finishes_on gone j core_gone leaves_gone left_over)
      ]

  module _ (e : c.work p ≡ Updating j (InFinish Unused)) where
    -- What is known where a fresh block was not used.
    rests : Reclaims g o (s.now' p) j × (j.used < j.got)
    unfolding PhaseFacts FinishFacts
    rests = holder_facts i j (InFinish Unused) e

    -- The first fresh block that was not used up is still held.
    pub unused_used : 1 ≤ uses g (words_of o (fresh_at j.used))
    unused_used = fresh_used g _ _ rests.0.retires.has.fresh (rest_first o j rests.1)

    -- It is the one that is given back.
    pub unused_block : fresh_in o j.used ≡ words_of o (fresh_at j.used)
    unused_block = child_same _ (used_small i.core _ unused_used)

    -- So it goes.
    pub unused_step : HolderStep m p g trail s.table t (s.now' p) (counted (released (fresh_in o j.used) m)) o (work_of_update (finish_after j Unused 0))
    unused_step = rw unused_block
        (finishes_on (regroup g g.chain g.loose (rest_blocks o (using' (j.used + 1) j)) g.torn heads) (using' (j.used + 1) j)
        (core_release i.core (heads_row m p true g s.table t i.core rests.0.retires.has.row) (words_of o (fresh_at j.used)) g.loose _
        (λ d. (let z : cnt d g.fresh ≡ cnt d (rest_blocks o j) = ap (cnt d) rests.0.retires.has.fresh in omega (arith, rest_less o j rests.1 d))) (λ d. omega arith))
        (λ q. leaves_regroup m _ g g.chain g.loose _ g.torn heads (trail q) q refl (λ d a. refl))
        (record { retires = record { has = record { row = refl; loose = rests.0.retires.has.loose; fresh = refl }; done = rests.0.retires.done; spent = omega (arith, rests.1); few = rests.0.retires.few; short = rests.0.retires.short }; whole = rests.0.whole }))
