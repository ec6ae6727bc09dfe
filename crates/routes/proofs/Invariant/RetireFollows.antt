-- Retire: the facts of what comes next, of what the holder sees after each turn.
use Rattle.std.proofs.Common.{◌≡◌, ℕ, suc, ◌+◌, ◌-◌, ◌<◌, ◌≤◌, cond, eqb, ltb, List, [], ◌++◌, sym, refl, ap, ◌∙◌, subst, inl, inr, arith}
use Rattle.std.proofs.lemmas.Bool.{cases_eq, lt-ltb, le-ltb, ltb-true, ltb-false, eqb-true, eqb-false}
use Rattle.own.specs.Layout.{words_of, retired_at}
use Rattle.routes.specs.declared.update.job.Job.{Job}
use Rattle.routes.specs.declared.update.retire.Retire.TheVariants.{Epoch, SetEpoch, SetNext, SetTail as ToTail, Fence}
use Rattle.routes.specs.declared.update.scan.Scan.TheVariants.{ForLimit}
use Rattle.routes.specs.declared.update.Phase.TheVariants.{Retire as InRetire, Scan as InScan}
use Rattle.routes.specs.Memory.{set_val}
use Rattle.routes.specs.Routes.{Route, Now}
use Rattle.routes.specs.Machine.Retires.{after_epoch, after_next, after_tail}
use Rattle.routes.specs.Counts.Counts.{cnt, seg}
use Rattle.routes.specs.Invariant.Ghosts.{Ghost, Row, still, calm, heads}
use Rattle.routes.specs.Invariant.Holders.{replaced_blocks}
use Rattle.routes.specs.Invariant.Memories.{Chain, last_from}
use Rattle.routes.specs.Invariant.Retiring.{Retires, Stamps, Joins, LinkedTo, RetireFacts, replaced_at}
use Rattle.routes.specs.Invariant.Writers.{Hall, PhaseFacts, ScanFacts}
use Rattle.routes.proofs.Basics.Places.{set_val_hit, set_val_miss}
use Rattle.routes.proofs.Counts.Segments.{seg_apart, seg-find}
use Rattle.routes.proofs.Invariant.GoingOn.{facts_if}
use Rattle.routes.proofs.Invariant.Chains.{chain_seg, last-++, last_seg, ends_empty}
use Rattle.routes.proofs.Invariant.RetireReady.{replaced_loose}
use Rattle.routes.proofs.Invariant.Sights.{rowed, joined, mended, header_stays}

-- Where nothing was replaced, nothing is loose.
none_replaced : (o : List ℕ) (j : Job) → j.retired ≡ 0 → replaced_blocks o j ≡ []
unfolding seg
none_replaced o j e = rw e refl

-- The last of a chain and the replaced blocks behind it.
replaced_last : (bs : List ℕ) (o : List ℕ) (j : Job) → 1 ≤ j.retired → last_from 0 (bs ++ replaced_blocks o j) ≡ replaced_at o (j.retired - 1)
unfolding seg
replaced_last bs o j l =
    let q : j.retired ≡ suc (j.retired - 1) = omega arith in
    ap (λ z. last_from 0 (bs ++ seg (words_of o) (retired_at 0) z)) q ∙ last-++ 0 0 (replaced_at o 0) bs (seg (words_of o) (suc (retired_at 0)) (j.retired - 1)) ∙ last_seg (words_of o) 0 (retired_at 0) (j.retired - 1)

module _ (v : ℕ → ℕ → ℕ) (hall : Hall) (g : Ghost) (o : List ℕ) (rs : List Route) (n : Now) (j : Job) where
  -- The same with another kind of row.
  pub retires_rowed : (r r' : Row) (loose : List ℕ) → Retires g o n j r loose → Retires (rowed r' g) o n j r' loose
  retires_rowed r r' loose f = record { has = record { row = refl; loose = f.has.loose; fresh = f.has.fresh }; done = f.done; spent = f.spent; few = f.few; short = f.short }

  -- EPOCH is loaded.
  pub epoch_loaded : (x : ℕ) → x ≡ v 0 2 → RetireFacts v g o n j Epoch → PhaseFacts v hall g o rs n j (InRetire (SetEpoch x))
  unfolding PhaseFacts RetireFacts
  epoch_loaded x e f = (f.0, f.1, (λ b l. f.2 b l ∙ sym e), sym e)

  -- EPOCH is raised: the first replaced node is next, or nothing was replaced.
  pub epoch_set : (e : ℕ) → RetireFacts v g o n j (SetEpoch e) → PhaseFacts (set_val 0 2 (e + 1) v) hall (rowed calm g) o rs n j (after_epoch j e)
  unfolding PhaseFacts RetireFacts
  epoch_set e f = facts_if (set_val 0 2 (e + 1) v) hall (rowed calm g) o rs n j (ltb 0 j.retired) _ _
      (λ l. record { retires = retires_rowed still calm (replaced_blocks o j) f.0; whole = f.1; stamps = f.2; raised = omega arith; here = ltb-true 0 j.retired l; linked = λ k i. absurd (omega arith) })
      (λ l. (
        let z : j.retired ≡ 0 = omega (arith, ltb-false 0 j.retired l) in
            subst (λ z. Retires (rowed calm g) o n j calm z) (none_replaced o j z) (retires_rowed still calm (replaced_blocks o j) f.0),
        f.1,
      ))

  -- what is loose is the replaced blocks, no header, and each once
  module _ (solid : (b : ℕ) → 1 ≤ cnt b g.loose → b ≡ 0 → ⊥) (once : (b : ℕ) → cnt b g.loose ≤ 1) (is : g.loose ≡ replaced_blocks o j) where
    -- They are no header.
    replaced_real : (i : ℕ) → i < j.retired → replaced_at o i ≡ 0 → ⊥
    replaced_real i l = solid (replaced_at o i) (replaced_loose g o j i is l)

    -- A store to one leaves those before it.
    replaced_apart : (k i w x u : ℕ) → k < i → i < j.retired → set_val (replaced_at o i) w x v (replaced_at o k) u ≡ v (replaced_at o k) u
    replaced_apart k i w x u l h = set_val_miss (replaced_at o i) w x v (replaced_at o k) u (λ d. seg_apart (words_of o) (retired_at 0) j.retired k i (λ b. subst (λ z. cnt b z ≤ 1) is (once b)) l h d.0)

    -- Links before node i stay.
    links_stay : (e i w x : ℕ) → i < j.retired → LinkedTo v o j.retired e i → LinkedTo (set_val (replaced_at o i) w x v) o j.retired e i
    links_stay e i w x h f k l = (replaced_apart k i w x 31 l h ∙ (f k l).0, replaced_apart k i w x 32 l h ∙ (f k l).1)

    -- Node i is stamped.
    pub at_set : (i e : ℕ) → Stamps v g o n j i e → PhaseFacts (set_val (replaced_at o i) 31 e v) hall g o rs n j (InRetire (SetNext i e))
    unfolding PhaseFacts RetireFacts
    at_set i e f = (
      record {
        retires = f.retires;
        whole = f.whole;
        stamps = f.stamps;
        here = f.here;
        raised = header_stays (replaced_at o i) 31 e v 2 (replaced_real i f.here) ∙ f.raised;
        linked = links_stay e i 31 e f.here f.linked;
      },
      set_val_hit (replaced_at o i) 31 e v,
    )

    -- Node i is linked: one more is.
    links_more : (i e y : ℕ) → i < j.retired → y ≡ cond (ltb (suc i) j.retired) (replaced_at o (suc i)) 0 → v (replaced_at o i) 31 ≡ e → LinkedTo v o j.retired e i →
        LinkedTo (set_val (replaced_at o i) 32 y v) o j.retired e (suc i)
    links_more i e y h q s f k l = elim (cases_eq k i) [
      | inl z ↦ subst (λ z. (set_val (replaced_at o i) 32 y v (replaced_at o z) 31 ≡ e) × (set_val (replaced_at o i) 32 y v (replaced_at o z) 32 ≡ cond (ltb (suc z) j.retired) (replaced_at o (suc z)) 0)) (sym z)
          (set_val_miss (replaced_at o i) 32 y v (replaced_at o i) 31 (λ d. (let u = d.1 in omega arith)) ∙ s, set_val_hit (replaced_at o i) 32 y v ∙ q)
      | inr z ↦ links_stay e i 32 y h f k (omega arith)
    ]

    -- All of them linked are a chain.
    linked_chain : (u : ℕ → ℕ → ℕ) (e i : ℕ) → j.retired ≡ suc i → LinkedTo u o j.retired e (suc i) → Chain u (replaced_at o 0) (replaced_blocks o j)
    linked_chain u e i q f = subst (λ z. Chain u (replaced_at o 0) (seg (words_of o) (retired_at 0) z)) (sym q) (chain_seg u (words_of o) (retired_at 0) i
        (λ k l. replaced_real k (omega arith))
        (λ k l. (f k (omega arith)).1 ∙ (let b = lt-ltb (suc k) j.retired (omega arith) in rw b refl))
        ((f i (omega arith)).1 ∙ (let b = le-ltb (suc i) j.retired (omega arith) in rw b refl)))

    -- Then the next is stamped, or the chain is to be joined to limbo.
    pub next_set : (i e y : ℕ) → y ≡ cond (ltb (suc i) j.retired) (replaced_at o (suc i)) 0 → Stamps v g o n j i e → v (replaced_at o i) 31 ≡ e → PhaseFacts (set_val (replaced_at o i) 32 y v) hall g o rs n j (after_next j i e)
    unfolding PhaseFacts RetireFacts
    next_set i e y q f s = facts_if (set_val (replaced_at o i) 32 y v) hall g o rs n j (ltb (i + 1) j.retired) _ _
        (λ l. record {
          retires = f.retires;
          whole = f.whole;
          stamps = f.stamps;
          raised = epoch;
          here = ltb-true (i + 1) j.retired l;
          linked = (let z : suc i ≡ i + 1 = omega arith in subst (λ z. LinkedTo (set_val (replaced_at o i) 32 y v) o j.retired e z) z more);
        })
        (λ l. (let h = f.here in let z : j.retired ≡ suc i = omega (arith, ltb-false (i + 1) j.retired l) in
        record { retires = f.retires; whole = f.whole; some = omega arith; linked = linked_chain (set_val (replaced_at o i) 32 y v) e i z more; stamped = λ b k. all z b k }))
      where
        epoch : set_val (replaced_at o i) 32 y v 0 2 ≡ suc e
        epoch = header_stays (replaced_at o i) 32 y v 2 (replaced_real i f.here) ∙ f.raised

        more : LinkedTo (set_val (replaced_at o i) 32 y v) o j.retired e (suc i)
        more = links_more i e y f.here q s f.linked

        all : j.retired ≡ suc i → (b : ℕ) → 1 ≤ cnt b g.loose → (set_val (replaced_at o i) 32 y v b 31 ≡ g.stamps b) × (g.stamps b < set_val (replaced_at o i) 32 y v 0 2)
        all z b k =
            let w = seg-find (words_of o) (retired_at 0) j.retired b (subst (λ z. 1 ≤ cnt b z) is k) in
            (subst (λ z. set_val (replaced_at o i) 32 y v z 31 ≡ e) w.2 (more w.0 (omega (arith, w.1))).0 ∙ sym (f.stamps b k), omega (arith, f.stamps b k, epoch))

  -- LIMBO_TAIL is loaded: limbo is empty, or it has a last node.
  pub tail_loaded : (x : ℕ) → x ≡ last_from 0 g.chain → Chain v (v 0 3) g.chain → Joins v g o n j → PhaseFacts v hall g o rs n j (after_tail x)
  unfolding PhaseFacts RetireFacts
  tail_loaded x e k f = facts_if v hall g o rs n j (eqb x 0) _ _ (λ z. (f, ends_empty v (v 0 3) g.chain k (sym e ∙ eqb-true x 0 z))) (λ z. (f, e, eqb-false x 0 z))

  -- What was loose is joined to limbo.
  pub loose_joined : (v' : ℕ → ℕ → ℕ) → Joins v g o n j → PhaseFacts v' hall (joined g) o rs n j (InRetire ToTail)
  unfolding PhaseFacts RetireFacts
  loose_joined v' f = (record { has = record { row = r.has.row; loose = refl; fresh = r.has.fresh }; done = r.done; spent = r.spent; few = r.few; short = r.short }, f.some, last)
    where
      r : Retires g o n j calm (replaced_blocks o j)
      r = f.retires

      last : replaced_at o (j.retired - 1) ≡ last_from 0 (g.chain ++ g.loose)
      last = sym (ap (λ z. last_from 0 (g.chain ++ z)) r.has.loose ∙ replaced_last g.chain o j f.some)

  -- LIMBO_TAIL is set.
  pub tail_set : (v' : ℕ → ℕ → ℕ) → RetireFacts v g o n j ToTail → PhaseFacts v' hall (mended g) o rs n j (InRetire Fence)
  unfolding PhaseFacts RetireFacts
  tail_set v' f = (record { has = record { row = f.0.has.row; loose = f.0.has.loose; fresh = f.0.has.fresh }; done = f.0.done; spent = f.0.spent; few = f.0.few; short = f.0.short }, refl)

  -- Nothing is late: the scan begins.
  pub retire_fenced : 0 < hall.cpus → RetireFacts v g o n j Fence → PhaseFacts v hall (rowed heads g) o rs n j (InScan (ForLimit 0 18446744073709551615))
  unfolding PhaseFacts RetireFacts ScanFacts
  retire_fenced l f = (record { retires = retires_rowed calm heads [] f.0; whole = f.1 }, l)
