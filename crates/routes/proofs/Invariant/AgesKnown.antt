-- What a turn rests on, for ages, follows from the invariant.
use Rattle.std.proofs.Common.{◌≡◌, ℕ, ◌+◌, ◌<◌, ◌≤◌, true, false, ◌⊎◌, List, sym, refl, ap, ◌∙◌, subst, inl, inr, arith}
use Rattle.std.proofs.lemmas.Bool.{cases_Bool, both_ways, and_parts, eqb-true, eq-eqb}
use Rattle.routes.specs.declared.lookup.Lookup.TheVariants.{Epoch, Announce, Root, Node, Leave}
use Rattle.routes.specs.declared.update.job.Job.{Job}
use Rattle.routes.specs.declared.update.scan.Scan.TheVariants.{ForNode}
use Rattle.routes.specs.declared.update.Phase.TheVariants.{Refuse, Lock as Locking, Check, Obtain, Recycle, Scan, Build, Publish, Retire, Reclaim, Finish}
use Rattle.routes.specs.declared.work.Work.{Work}
use Rattle.routes.specs.declared.work.Work.TheVariants.{Idle, Lookup as Looking, Update as Updating}
use Rattle.routes.specs.Memory.{Mem, sees}
use Rattle.routes.specs.Routes.{Now, State, is_question, must_wait}
use Rattle.routes.specs.Counts.Counts.{cnt}
use Rattle.routes.specs.Late.Rows.{AllRow}
use Rattle.routes.specs.Late.View.{view}
use Rattle.routes.specs.Machine.Acts.{Did}
use Rattle.routes.specs.Machine.Cpus.{act}
use Rattle.routes.specs.Run.Nows.{is_change}
use Rattle.routes.specs.Invariant.Ages.{SameWork, AgeFacts}
use Rattle.routes.specs.Invariant.Gathering.{Stands}
use Rattle.routes.specs.Invariant.Ghosts.{Ghost}
use Rattle.routes.specs.Invariant.Inv.{Lock, Cpus, Inv}
use Rattle.routes.specs.Invariant.Memories.{HeadStore, RowOk}
use Rattle.routes.specs.Invariant.Readers.{LooksUp, Updates, Does}
use Rattle.routes.specs.Invariant.Registers.{holds_in, holds, announced}
use Rattle.routes.specs.Invariant.Writers.{ScanFacts, PhaseFacts, Writer, hall_of}
use Rattle.routes.proofs.Late.Fence.{swap_reply}
use Rattle.routes.proofs.Late.Sees.{sees_none, sees_untouched}
use Rattle.routes.proofs.Late.View.{open_low, view_open}
use Rattle.routes.proofs.Run.Leads.{leader_waits}
use Rattle.routes.proofs.Invariant.Local.{quiet_late}
use Rattle.routes.proofs.Invariant.Steps.{busy_small}

-- Registers are of the kind of what is under way.
pub does_same : (val : ℕ → ℕ → ℕ) (w : Work) (o trail : List ℕ) (n : Now) → Does val w o trail n → SameWork w n
unfolding Does LooksUp Updates SameWork is_question is_change
does_same val Idle o trail n d = d.1
does_same val (Looking (Epoch a)) o trail n d = rw d.2.2 refl
does_same val (Looking (Announce a e)) o trail n d = rw d.2.2 refl
does_same val (Looking (Root a e)) o trail n d = rw d.2.2 refl
does_same val (Looking (Node a e k b best)) o trail n d = rw d.1.1 refl
does_same val (Looking (Leave e best)) o trail n d = rw d.1.1.1 refl
does_same val (Updating j Refuse) o trail n d = rw d.1.1.2 refl
does_same val (Updating j Locking) o trail n d = rw d.1.1.2 refl
does_same val (Updating j (Check s)) o trail n d = d.1
does_same val (Updating j (Obtain s)) o trail n d = d.1
does_same val (Updating j (Recycle s)) o trail n d = d.1
does_same val (Updating j (Scan s)) o trail n d = d.1
does_same val (Updating j (Build s)) o trail n d = d.1
does_same val (Updating j (Publish s)) o trail n d = d.1
does_same val (Updating j (Retire s)) o trail n d = d.1
does_same val (Updating j (Reclaim s)) o trail n d = d.1
does_same val (Updating j (Finish s)) o trail n d = d.1

module _ {m : Mem} {k : Lock} {g : Ghost} {trail : ℕ → List ℕ} {s : State} {t : ℕ} {c : Cpus} (i : Inv m k g trail s t c) where
  -- Who has the lock is a processor.
  holder_small : k.held ≡ true → k.who < m.cpus
  unfolding holds
  holder_small held = busy_small i k.who (λ e. both_ways _ (rw e refl) (i.holding k.who ∙ (rw (held, eq-eqb k.who k.who refl) refl)))

  -- One that stands at a processor has the lock, and its facts.
  stands_at : (q r b stamp : ℕ) (j : Job) → c.work q ≡ Updating j (Scan (ForNode r b stamp)) → (q ≡ k.who) × Stands m.cpus g (c.own k.who) s.table (s.now' k.who) j r b stamp
  unfolding holds holds_in Writer PhaseFacts ScanFacts
  stands_at q r b stamp j e =
      let mine : holds (c.work q) ≡ true = rw e refl in
      let here : q ≡ k.who = eqb-true q k.who (and_parts _ _ (sym (i.holding q) ∙ mine)).1 in
      (here, subst (λ w. Writer (view k.who m) (hall_of m) g (c.own k.who) s.table (s.now' k.who) w) (ap c.work (sym here) ∙ e) i.writer)

  -- It sees what is there, but for LIMBO_HEAD and LIMBO_TAIL.
  stands_sees : (r b stamp w : ℕ) (j : Job) → Stands m.cpus g (c.own k.who) s.table (s.now' k.who) j r b stamp → (w < 3) ⊎ (4 < w) → sees k.who 0 w m ≡ m.val 0 w
  unfolding RowOk
  stands_sees r b stamp w j n out =
      let row : AllRow HeadStore (m.late k.who) = subst (λ z. RowOk z m k.who g (view k.who m 0 2)) n.gathers.gathered.has.row i.core.row in
      sees_untouched HeadStore k.who 0 w m (λ x h. elim out [ inl l ↦ omega (arith, h.1) | inr l ↦ omega (arith, h.2) ]) row

  -- While it stands, EPOCH is past the stamp of its node.
  pub stands_past : (q r b stamp : ℕ) (j : Job) → c.work q ≡ Updating j (Scan (ForNode r b stamp)) → stamp < m.val 0 2
  unfolding cnt
  stands_past q r b stamp j e =
      let n = (stands_at q r b stamp j e).1 in
      let first : 1 ≤ cnt b g.chain = rw n.oldest.1 (rw (eq-eqb b b refl) (omega arith)) in
      let seen : view k.who m 0 2 ≡ m.val 0 2 = view_open k.who m 0 2 (open_low 2 (omega arith) (omega arith)) ∙ stands_sees r b stamp 2 j n (inl (omega arith)) in
      omega (arith, (i.core.sight.stamped b first).1, n.stamped)

  module _ (p x : ℕ) (n : Mem) (did : Did p (act p (c.work p) (c.own p)) m x n) where
    -- what was done in registers that are known
    did_at : (w : Work) → c.work p ≡ w → Did p (act p w (c.own p)) m x n
    did_at w e = subst (λ z. Did p (act p z (c.own p)) m x n) e did

    -- A lookup that loads EPOCH has it.
    loads_epoch : (a : ℕ) → c.work p ≡ Looking (Epoch a) → x ≡ m.val 0 2
    unfolding holds
    loads_epoch a e = (did_at (Looking (Epoch a)) e).0 ∙ sees_none p 0 2 m (quiet_late p i (rw e refl))

    -- Where the lock is not free, somebody leads.
    lock_waits : (j : Job) → c.work p ≡ Updating j Locking → (x ≡ 0 → ⊥) → must_wait m.cpus p s ≡ true
    unfolding holds holds_in
    lock_waits j e full =
        let free : holds (c.work p) ≡ false = rw e refl in
        let word : x ≡ m.val 0 0 = (did_at (Updating j Locking) e).0 ∙ swap_reply p 0 0 m (quiet_late p i free) in
        elim (cases_Bool k.held) [
          | inl held ↦ leader_waits m.cpus p k.who s (holder_small held)
              (λ h. both_ways _ (sym (i.holding k.who) ∙ (rw h free)) (rw (held, eq-eqb k.who k.who refl) refl))
              (i.leads k.who ∙ (rw (held, eq-eqb k.who k.who refl) refl))
          | inr free ↦ absurd (full (word ∙ (i.core.writer ∙ (rw free refl))))
        ]

    -- One that stands sees what is announced.
    sees-announced : (r b stamp : ℕ) (j : Job) → c.work p ≡ Updating j (Scan (ForNode r b stamp)) → x ≡ announced (c.work r)
    sees-announced r b stamp j e =
        let n = stands_at p r b stamp j e in
        (did_at (Updating j (Scan (ForNode r b stamp))) e).0 ∙ (ap (λ h. sees h 0 (16 + r) m) n.0 ∙ (stands_sees r b stamp (16 + r) j n.1 (inr (omega arith)) ∙ (i.readers r).active))

    -- All that a turn rests on, for ages.
    pub age_facts : AgeFacts m.cpus p s c.work (m.val 0 2) x
    age_facts = record {
      kinds = λ q. does_same m.val (c.work q) (c.own q) (trail q) (s.now' q) (i.readers q).does;
      outside = i.outside;
      past = stands_past;
      loads = loads_epoch;
      fails = lock_waits;
      sees = sees-announced;
    }
