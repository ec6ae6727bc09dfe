-- Obtain, Recycle, Scan, Reclaim and Finish may take their turns: registers are in their ranges, and what they ask may be asked.
use Rattle.std.proofs.Common.{◌≡◌, ℕ, ◌+◌, ◌^◌, ◌<◌, ◌≤◌, true, List, sym, refl, subst, arith}
use Rattle.std.proofs.lemmas.Bool.{eq-eqb}
use Rattle.routes.specs.declared.update.job.Job.{Job}
use Rattle.routes.specs.declared.update.finish.Finish.{Finish}
use Rattle.routes.specs.declared.update.finish.Finish.TheVariants.{Unused, Unlock}
use Rattle.routes.specs.declared.update.obtain.Obtain.{Obtain}
use Rattle.routes.specs.declared.update.obtain.Obtain.TheVariants.{Get, Undo, Full}
use Rattle.routes.specs.declared.update.reclaim.Reclaim.{Reclaim}
use Rattle.routes.specs.declared.update.reclaim.Reclaim.TheVariants.{Head, RetiredAt, Next, SetHead, SetTail, Release}
use Rattle.routes.specs.declared.update.recycle.Recycle.{Recycle}
use Rattle.routes.specs.declared.update.recycle.Recycle.TheVariants.{Head as OldHead, RetiredAt as OldAt, Next as OldNext, SetHead as OldSetHead, SetTail as OldSetTail}
use Rattle.routes.specs.declared.update.scan.Scan.{Scan}
use Rattle.routes.specs.declared.update.scan.Scan.TheVariants.{ForNode, ForLimit}
use Rattle.routes.specs.declared.update.Phase.TheVariants.{Obtain as InObtain, Recycle as InRecycle, Scan as InScan, Reclaim as InReclaim, Finish as InFinish}
use Rattle.routes.specs.declared.work.Work.TheVariants.{Update as Updating}
use Rattle.routes.specs.Memory.{Mem, MayTouch, MayRelease}
use Rattle.routes.specs.Routes.{State}
use Rattle.routes.specs.Counts.Counts.{cnt}
use Rattle.routes.specs.Machine.Updates.{UpdateReady}
use Rattle.routes.specs.Invariant.Ghosts.{Ghost, heads}
use Rattle.routes.specs.Invariant.Holders.{Oldest}
use Rattle.routes.specs.Invariant.Gathering.{ObtainFacts, RecycleFacts}
use Rattle.routes.specs.Invariant.Retiring.{ReclaimFacts, FinishFacts}
use Rattle.routes.specs.Invariant.Writers.{PhaseFacts, ScanFacts}
use Rattle.routes.specs.Invariant.Inv.{Inv, Cpus}
use Rattle.routes.proofs.Invariant.Apart.{uses, solid, used_held, used_inside}
use Rattle.routes.proofs.Invariant.Touching.{MayAsk, used_touch, header_touch}
use Rattle.routes.proofs.Invariant.HeadRows.{heads_row, heads_none_to}
use Rattle.routes.proofs.Invariant.Holding.{holder_small, holder_room, holder_facts}
use Rattle.routes.proofs.Invariant.Needs.{need_few}
use Rattle.routes.proofs.Invariant.Obtains.{undo_used, undo_block}
use Rattle.routes.proofs.Invariant.Recycles.{oldest_in}
use Rattle.routes.proofs.Invariant.Reclaims.{unused_used, unused_block}
use Rattle.routes.proofs.Invariant.Steps.{lock_of}

module _ {m : Mem} {g : Ghost} {trail : ℕ → List ℕ} {s : State} {t : ℕ} {c : Cpus} {p : ℕ} (i : Inv m (lock_of p true) g trail s t c) (left : 0 < m.left) (mine : p ≡ m.who) where
  -- It may ask.
  asks : MayAsk m p
  asks = record { once = left; turn = mine; inside = holder_small i }

  -- The oldest retired node may be touched.
  touch_oldest : (b w : ℕ) → Oldest g b → w < 48 → MayTouch m p b w
  touch_oldest b w e l = used_touch i.core asks b w (let z = oldest_in i b e in omega arith) l

  -- A block in use may be given back where late stores go to LIMBO_HEAD and LIMBO_TAIL only.
  pub release_used : (b : ℕ) → g.row ≡ heads → 1 ≤ uses g b → MayRelease m p b
  release_used b e n =
      let real = solid i.core b n in
      (left, mine, holder_small i, positive b real, used_inside i.core b n, rw (used_held i.core b n) tt, heads_none_to m p b i.core.others (heads_row m p true g s.table t i.core e) real)
    where
      positive : (b : ℕ) → (b ≡ 0 → ⊥) → 0 < b
      positive b n = omega arith

  module _ (j : Job) where
    -- its own words
    abbrev o : List ℕ
    o = c.own p

    -- Obtain.
    pub obtain_ready : (st : Obtain) → c.work p ≡ Updating j (InObtain st) → UpdateReady m p j (InObtain st) o
    unfolding PhaseFacts ObtainFacts
    obtain_ready Get e = let f = holder_facts i j (InObtain Get) e in
        record { ok = (f.wants', need_few f.gathered.sure); room = holder_room i; may = (left, mine, holder_small i) }
    obtain_ready Undo e = let f = holder_facts i j (InObtain Undo) e in
        record {
          ok = (f.1, f.0.few);
          room = holder_room i;
          may = rw (undo_block i j e) (release_used _ f.0.has.row (undo_used i j e));
        }
    obtain_ready Full e = record { ok = tt; room = holder_room i; may = header_touch i.core asks 0 (omega arith) }

    -- Recycle.
    pub recycle_ready : (st : Recycle) → c.work p ≡ Updating j (InRecycle st) → UpdateReady m p j (InRecycle st) o
    unfolding PhaseFacts RecycleFacts
    recycle_ready OldHead e = record { ok = tt; room = holder_room i; may = header_touch i.core asks 3 (omega arith) }
    recycle_ready (OldAt b) e = let f = holder_facts i j (InRecycle (OldAt b)) e in
        record { ok = tt; room = holder_room i; may = touch_oldest b 31 f.1 (omega arith) }
    recycle_ready (OldNext b grace) e = let f = holder_facts i j (InRecycle (OldNext b grace)) e in
        record { ok = tt; room = holder_room i; may = touch_oldest b 32 f.1 (omega arith) }
    recycle_ready (OldSetHead b next grace) e = let f = holder_facts i j (InRecycle (OldSetHead b next grace)) e in
        record { ok = (f.0.wants', need_few f.0.gathered.sure); room = holder_room i; may = header_touch i.core asks 3 (omega arith) }
    recycle_ready OldSetTail e = record { ok = tt; room = holder_room i; may = header_touch i.core asks 4 (omega arith) }

    -- Scan: an epoch is at most the number of turns.
    pub scan_ready : t < 2 ^ 64 → (st : Scan) → c.work p ≡ Updating j (InScan st) → UpdateReady m p j (InScan st) o
    unfolding PhaseFacts ScanFacts
    scan_ready soon (ForNode q b stamp) e = let f = holder_facts i j (InScan (ForNode q b stamp)) e in
        record {
          ok = (omega (arith, f.here, i.core.sizes.cpus), omega (arith, f.stamped, (i.core.sight.stamped b (oldest_in i b f.oldest)).1, i.core.sight.early));
          room = holder_room i;
          may = header_touch i.core asks (16 + q) (omega (arith, f.here, i.core.sizes.cpus));
        }
    scan_ready soon (ForLimit q limit) e = let f = holder_facts i j (InScan (ForLimit q limit)) e in
        record { ok = omega (arith, f.1, i.core.sizes.cpus); room = holder_room i; may = header_touch i.core asks (16 + q) (omega (arith, f.1, i.core.sizes.cpus)) }

    -- Reclaim.
    pub reclaim_ready : (st : Reclaim) → c.work p ≡ Updating j (InReclaim st) → UpdateReady m p j (InReclaim st) o
    unfolding PhaseFacts ReclaimFacts cnt
    reclaim_ready (Head grace n) e = record { ok = tt; room = holder_room i; may = header_touch i.core asks 3 (omega arith) }
    reclaim_ready (RetiredAt grace n b) e = let f = holder_facts i j (InReclaim (RetiredAt grace n b)) e in
        record { ok = tt; room = holder_room i; may = touch_oldest b 31 f.1 (omega arith) }
    reclaim_ready (Next grace n b) e = let f = holder_facts i j (InReclaim (Next grace n b)) e in
        record { ok = tt; room = holder_room i; may = touch_oldest b 32 f.1 (omega arith) }
    reclaim_ready (SetHead grace n b next) e = record { ok = tt; room = holder_room i; may = header_touch i.core asks 3 (omega arith) }
    reclaim_ready (SetTail grace n b) e = record { ok = tt; room = holder_room i; may = header_touch i.core asks 4 (omega arith) }
    reclaim_ready (Release grace n b) e = let f = holder_facts i j (InReclaim (Release grace n b)) e in
        record {
          ok = tt;
          room = holder_room i;
          may = release_used b f.0.has.row
              (let z : 1 ≤ cnt b g.loose = subst (λ l. 1 ≤ cnt b l) (sym f.0.has.loose) (rw (eq-eqb b b refl) (omega arith)) in omega arith);
        }

    -- Finish.
    pub finish_ready : (st : Finish) → c.work p ≡ Updating j (InFinish st) → UpdateReady m p j (InFinish st) o
    unfolding PhaseFacts FinishFacts
    finish_ready Unused e = let f = holder_facts i j (InFinish Unused) e in
        record {
          ok = omega (arith, f.1, f.0.retires.few);
          room = holder_room i;
          may = rw (unused_block i j e) (release_used _ f.0.retires.has.row (unused_used i j e));
        }
    finish_ready Unlock e = record { ok = tt; room = holder_room i; may = header_touch i.core asks 0 (omega arith) }
