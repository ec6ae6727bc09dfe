-- The turns of Scan: it stands at a lookup, or has passed one more processor.
use Rattle.std.proofs.Common.{◌≡◌, ℕ, suc, ◌+◌, ◌-◌, ◌<◌, ◌≤◌, true, false, cond, ltb, ◌⊎◌, List, sym, refl, ◌∙◌, subst, inl, inr, arith}
use Rattle.std.proofs.lemmas.Bool.Decides.{nat_tests, eqb_tells}
use Rattle.std.proofs.lemmas.Bool.{cases_Bool, cases_lt, lt-ltb, le-ltb}
use Rattle.routes.specs.declared.update.job.Job.{Job}
use Rattle.routes.specs.declared.update.scan.Scan.TheVariants.{ForNode, ForLimit}
use Rattle.routes.specs.declared.update.Phase.TheVariants.{Scan as InScan}
use Rattle.routes.specs.declared.work.Work.TheVariants.{Update as Updating}
use Rattle.routes.specs.Memory.{Mem, sees, counted}
use Rattle.routes.specs.Routes.{State}
use Rattle.routes.specs.Counts.Counts.{cnt}
use Rattle.routes.specs.Machine.Scans.{announced_before, passed_for, passed_with, scan_after}
use Rattle.routes.specs.Invariant.Ghosts.{Ghost, heads, limbo}
use Rattle.routes.specs.Invariant.Gathering.{Stands, RecycleFacts}
use Rattle.routes.specs.Invariant.Retiring.{Reclaims, ReclaimFacts}
use Rattle.routes.specs.Invariant.Registers.{announced, holds, holds_in, passed, passed_in, passed_scan, passed_recycle, passed_reclaim}
use Rattle.routes.specs.Invariant.Writers.{Writer, PhaseFacts, ScanFacts}
use Rattle.routes.specs.Invariant.Inv.{Inv, Cpus}
use Rattle.routes.proofs.Invariant.HeadRows.{heads_row, heads_active}
use Rattle.routes.proofs.Invariant.Holding.{holder_facts, holder_scanned}
use Rattle.routes.proofs.Invariant.Steps.{lock_of}
use Rattle.routes.proofs.Invariant.HolderSteps.{HolderStep, stand_past, loads}

-- Who has not announced an epoch before the limit has announced nothing, or the limit or later.
pub not_before : (x limit : ℕ) → announced_before x limit ≡ false → (x ≡ 0) ⊎ (limit < x)
not_before x limit e = elim (eqb_tells x 0) [
  | inl z ↦ inl z.1
  | inr z ↦ inr (let n : ltb (x - 1) limit ≡ false = rw z.0 at e in grind (arith, nat_tests))
]

-- the limit after a look at one more
abbrev pub least : ℕ → ℕ → ℕ
least x limit = cond (announced_before x limit) (x - 1) limit

-- It is no larger.
pub least_less : (x limit : ℕ) → least x limit ≤ limit
least_less x limit = grind (arith, nat_tests)

-- What was looked at is not before it.
pub least_seen : (x limit : ℕ) → (x ≡ 0) ⊎ (least x limit < x)
least_seen x limit = elim (eqb_tells x 0) [
  | inl z ↦ inl z.1
  | inr z ↦ inr (grind (arith, nat_tests))
]

module _ {m : Mem} {g : Ghost} {trail : ℕ → List ℕ} {s : State} {t : ℕ} {c : Cpus} {p : ℕ} (i : Inv m (lock_of p true) g trail s t c) (j : Job) where
  -- What a processor has announced is what the holder loads.
  pub active_seen : g.row ≡ heads → (q : ℕ) → sees p 0 (16 + q) m ≡ announced (c.work q)
  active_seen e q = heads_active m p q (heads_row m p true g s.table t i.core e) ∙ (i.readers q).active

  -- One more is passed with a limit that is no larger.
  passes : (q limit limit' : ℕ) → ((r b : ℕ) → r < q → 1 ≤ cnt b (trail r) → 1 ≤ limbo g b → limit ≤ g.stamps b) → limit' ≤ limit → (announced (c.work q) ≡ 0) ⊎ (limit' < announced (c.work q)) →
      (r b : ℕ) → r < q + 1 → 1 ≤ cnt b (trail r) → 1 ≤ limbo g b → limit' ≤ g.stamps b
  passes q limit limit' before less here r b l = elim (eqb_tells r q) [
    | inl e ↦ subst (λ z. 1 ≤ cnt b (trail z) → 1 ≤ limbo g b → limit' ≤ g.stamps b) (sym e.1) (stand_past i q limit' b here)
    | inr e ↦ (λ a f. omega (arith, before r b (omega arith) a f))
  ]

  module _ (q b stamp : ℕ) (e : c.work p ≡ Updating j (InScan (ForNode q b stamp))) where
    -- What is known where it stands for a node.
    known : Stands m.cpus g (c.own p) s.table (s.now' p) j q b stamp
    unfolding PhaseFacts ScanFacts
    known = holder_facts i j (InScan (ForNode q b stamp)) e

    -- What it has passed.
    before : (r d : ℕ) → r < q → 1 ≤ cnt d (trail r) → 1 ≤ limbo g d → suc stamp ≤ g.stamps d
    unfolding passed passed_in passed_scan
    before = holder_scanned i _ _ e

    -- It stands at a lookup that is in the way of the node.
    stands : HolderStep m p g trail s.table t (s.now' p) (counted m) (c.own p) (Updating j (InScan (ForNode q b stamp)))
    unfolding Writer PhaseFacts ScanFacts holds holds_in passed
    stands = loads i (s.now' p) (c.own p) (Updating j (InScan (ForNode q b stamp))) known (holder_scanned i _ _ e) refl

    -- It is past a processor that is not.
    past : ((r d : ℕ) → r < q + 1 → 1 ≤ cnt d (trail r) → 1 ≤ limbo g d → suc stamp ≤ g.stamps d) →
        HolderStep m p g trail s.table t (s.now' p) (counted m) (c.own p) (Updating j (passed_for m.cpus q b stamp))
    unfolding Writer PhaseFacts ScanFacts RecycleFacts holds holds_in passed passed_in passed_scan passed_recycle
    past after = elim (cases_lt (q + 1) m.cpus) [
      | inl l ↦ rw (lt-ltb (q + 1) m.cpus l) (loads i (s.now' p) (c.own p) _ (record { gathers = known.gathers; oldest = known.oldest; stamped = known.stamped; here = l }) after refl)
      | inr l ↦ rw (le-ltb (q + 1) m.cpus l) (loads i (s.now' p) (c.own p) _ (known.gathers, known.oldest, omega (arith, known.stamped)) (λ r d small a z. omega (arith, after r d (omega arith) a z)) refl)
    ]

    -- A look at processor q for the oldest node.
    pub for_node_step : HolderStep m p g trail s.table t (s.now' p) (counted m) (c.own p) (Updating j (scan_after m.cpus (ForNode q b stamp) (sees p 0 (16 + q) m)))
    for_node_step = rw (active_seen known.gathers.gathered.has.row q) (elim (cases_Bool (announced_before (announced (c.work q)) (stamp + 1))) [
      | inl a ↦ rw a stands
      | inr a ↦ rw a (past (passes q (suc stamp) (suc stamp) before (omega arith) (elim (not_before (announced (c.work q)) (stamp + 1) a) [ inl z ↦ inl z | inr z ↦ inr (omega arith) ])))
    ])

  module _ (q limit : ℕ) (e : c.work p ≡ Updating j (InScan (ForLimit q limit))) where
    -- What is known where it takes the least.
    known' : Reclaims g (c.own p) (s.now' p) j × (q < m.cpus)
    unfolding PhaseFacts ScanFacts
    known' = holder_facts i j (InScan (ForLimit q limit)) e

    -- What it has passed.
    upto : (r d : ℕ) → r < q → 1 ≤ cnt d (trail r) → 1 ≤ limbo g d → limit ≤ g.stamps d
    unfolding passed passed_in passed_scan
    upto = holder_scanned i _ _ e

    -- It is past processor q with this limit.
    past_with : (limit' : ℕ) → ((r d : ℕ) → r < q + 1 → 1 ≤ cnt d (trail r) → 1 ≤ limbo g d → limit' ≤ g.stamps d) →
        HolderStep m p g trail s.table t (s.now' p) (counted m) (c.own p) (Updating j (passed_with m.cpus q limit'))
    unfolding Writer PhaseFacts ScanFacts ReclaimFacts holds holds_in passed passed_in passed_scan passed_reclaim
    past_with limit' after = elim (cases_lt (q + 1) m.cpus) [
      | inl l ↦ rw (lt-ltb (q + 1) m.cpus l) (loads i (s.now' p) (c.own p) _ (known'.0, l) after refl)
      | inr l ↦ rw (le-ltb (q + 1) m.cpus l) (loads i (s.now' p) (c.own p) _ known'.0 (λ r d small a z. after r d (omega arith) a z) refl)
    ]

    -- A look at processor q for the least epoch that is announced.
    pub for_limit_step : HolderStep m p g trail s.table t (s.now' p) (counted m) (c.own p) (Updating j (scan_after m.cpus (ForLimit q limit) (sees p 0 (16 + q) m)))
    for_limit_step = rw (active_seen known'.0.retires.has.row q)
        (past_with (least (announced (c.work q)) limit) (passes q limit (least (announced (c.work q)) limit) upto (least_less (announced (c.work q)) limit) (least_seen (announced (c.work q)) limit)))
