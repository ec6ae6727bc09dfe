-- The turns of Obtain: a block is got, there is none, or what was got goes back.
use Rattle.std.proofs.Common.{◌≡◌, ℕ, suc, ◌+◌, ◌-◌, ◌<◌, ◌≤◌, true, false, List, refl, ap, ◌∙◌, arith}
use Rattle.own.specs.Layout.{words_of, fresh_at}
use Rattle.words.proofs.Packing.{child_same}
use Rattle.routes.specs.declared.update.job.Job.{Job}
use Rattle.routes.specs.declared.update.obtain.Obtain.TheVariants.{Get, Undo}
use Rattle.routes.specs.declared.update.recycle.Recycle.TheVariants.{Head}
use Rattle.routes.specs.declared.update.Phase.TheVariants.{Obtain as InObtain, Recycle as InRecycle}
use Rattle.routes.specs.declared.work.Work.TheVariants.{Update as Updating}
use Rattle.routes.specs.Memory.{Mem, counted, released}
use Rattle.routes.specs.Routes.{State}
use Rattle.routes.specs.Counts.Counts.{bit, cnt}
use Rattle.routes.specs.Late.Steps.{obtained}
use Rattle.routes.specs.Machine.Cpus.{work_of_update}
use Rattle.routes.specs.Machine.Jobs.{having}
use Rattle.routes.specs.Machine.Obtains.{fresh_in, obtain_after, obtain_words}
use Rattle.routes.specs.Invariant.Ghosts.{Ghost, heads}
use Rattle.routes.specs.Invariant.Holders.{got_blocks}
use Rattle.routes.specs.Invariant.Gathering.{Gathers, Undoes, ObtainFacts, RecycleFacts}
use Rattle.routes.specs.Invariant.Registers.{holds, holds_in, passed, passed_in, passed_recycle}
use Rattle.routes.specs.Invariant.Writers.{Writer, PhaseFacts}
use Rattle.routes.specs.Invariant.Inv.{Inv, Cpus}
use Rattle.routes.proofs.Invariant.Apart.{uses, used_small}
use Rattle.routes.proofs.Invariant.HeadRows.{HeadsRow, heads_row}
use Rattle.routes.proofs.Invariant.HeadCores.{regroup, core_release, core_obtain, leaves_obtain, leaves_regroup}
use Rattle.routes.proofs.Invariant.FreshBlocks.{more, got_more, got_less, got_last, fresh_used}
use Rattle.routes.proofs.Invariant.Holding.{holder_facts, holder_room}
use Rattle.routes.proofs.Invariant.Steps.{lock_of}
use Rattle.routes.proofs.Invariant.HolderSteps.{HolderStep, loads}
use Rattle.routes.proofs.Invariant.Gatherings.{gathered_more, gathers_on, undoes_on}
use Rattle.routes.proofs.Invariant.Needs.{need_few}

module _ {m : Mem} {g : Ghost} {trail : ℕ → List ℕ} {s : State} {t : ℕ} {c : Cpus} {p : ℕ} (i : Inv m (lock_of p true) g trail s t c) (j : Job) where
  -- its own words
  abbrev o : List ℕ
  o = c.own p

  module _ (e : c.work p ≡ Updating j (InObtain Get)) where
    -- What is known where one more is wanted.
    known : Gathers g o s.table (s.now' p) j
    unfolding PhaseFacts ObtainFacts
    known = holder_facts i j (InObtain Get) e

    -- There is room for one more among the own words.
    pub got_few : j.got < 72
    got_few = omega (arith, need_few known.gathered.sure, known.wants')

    -- Its late stores.
    row : HeadsRow p m
    row = heads_row m p true g s.table t i.core known.gathered.has.row

    -- Block b is got, with any words in it.
    pub get_step : (b : ℕ) (words : ℕ → ℕ → ℕ) → b < m.blocks → m.held b ≡ false → ((d w : ℕ) → (d ≡ b → ⊥) → words d w ≡ m.val d w) →
        HolderStep m p g trail s.table t (s.now' p) (counted (obtained b words m)) (obtain_words j Get o (suc b)) (work_of_update (obtain_after j Get (suc b)))
    get_step b words inside free same =
        gathers_on (regroup g g.chain g.loose (got_blocks (more o j b (holder_room i) got_few) (having (j.got + 1) j)) g.torn heads) (having (j.got + 1) j)
        (core_obtain i.core row b words inside free same _ (λ d. got_more o j b (holder_room i) got_few d ∙ (let z : cnt d g.fresh ≡ cnt d (got_blocks o j) = ap (cnt d) known.gathered.has.fresh in omega arith)))
        (λ q. leaves_obtain i.core row b words inside free same _ heads (trail q) q (i.readers q).safe)
        (gathered_more (holder_room i) got_few known b (record { row = refl; loose = known.gathered.has.loose; fresh = refl }))
        known.whole

    -- There is none: every block is in use.
    pub get_none : ((b : ℕ) → b < m.blocks → m.held b ≡ true) → HolderStep m p g trail s.table t (s.now' p) (counted m) (obtain_words j Get o 0) (work_of_update (obtain_after j Get 0))
    unfolding Writer PhaseFacts RecycleFacts holds holds_in passed passed_in passed_recycle
    get_none all = loads i (s.now' p) o (Updating j (InRecycle Head))
        (known, λ b l. omega (arith, i.core.blocks b, ap bit (all b l)))
        (λ q b l. absurd (omega arith)) refl

  module _ (e : c.work p ≡ Updating j (InObtain Undo)) where
    -- What is known where there is no room.
    undo : Undoes g o (s.now' p) j × (0 < j.got)
    unfolding PhaseFacts ObtainFacts
    undo = holder_facts i j (InObtain Undo) e

    -- The last of those got is in use.
    pub undo_used : 1 ≤ uses g (words_of o (fresh_at (j.got - 1)))
    undo_used = fresh_used g _ _ undo.0.has.fresh (got_last o j undo.1)

    -- It is the one that is given back.
    pub undo_block : fresh_in o (j.got - 1) ≡ words_of o (fresh_at (j.got - 1))
    undo_block = child_same _ (used_small i.core _ undo_used)

    -- So it goes.
    pub undo_step : HolderStep m p g trail s.table t (s.now' p) (counted (released (fresh_in o (j.got - 1)) m)) o (work_of_update (obtain_after j Undo 0))
    undo_step = rw undo_block
        (undoes_on (regroup g g.chain g.loose (got_blocks o (having (j.got - 1) j)) g.torn heads) (having (j.got - 1) j)
        (core_release i.core (heads_row m p true g s.table t i.core undo.0.has.row) (words_of o (fresh_at (j.got - 1))) g.loose _
        (λ d. (let z : cnt d g.fresh ≡ cnt d (got_blocks o j) = ap (cnt d) undo.0.has.fresh in omega (arith, got_less o j undo.1 d))) (λ d. omega arith))
        (λ q. leaves_regroup m _ g g.chain g.loose _ g.torn heads (trail q) q refl (λ d a. refl))
        (record { has = record { row = refl; loose = undo.0.has.loose; fresh = refl }; whole = undo.0.whole; full = undo.0.full; few = omega (arith, undo.0.few) }))
