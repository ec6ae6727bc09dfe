-- The lock is got.
use Rattle.std.proofs.Common.{◌≡◌, ℕ, suc, ◌+◌, ◌<◌, true, false, cond, ◌&&◌, T, eqb, List, [], ◌∷◌, sym, refl, ap, ◌∙◌, subst, arith}
use Rattle.std.proofs.lemmas.Bool.{eq-eqb}
use Rattle.routes.specs.declared.update.job.Job.{Job}
use Rattle.routes.specs.declared.update.check.Check.TheVariants.{Piece as AtPiece}
use Rattle.routes.specs.declared.update.Phase.TheVariants.{Lock as AtLock, Check}
use Rattle.routes.specs.declared.work.Work.TheVariants.{Update as Updating}
use Rattle.routes.specs.Memory.{Mem, counted, swapped}
use Rattle.routes.specs.Routes.{Event, Turned, State, Run, pieces, leads, young, older, must_wait, leader, led}
use Rattle.routes.specs.Late.Steps.{set_word}
use Rattle.routes.specs.Late.View.{view}
use Rattle.routes.specs.Run.Nows.{is_change}
use Rattle.routes.specs.Run.Steps.{turned_at}
use Rattle.routes.specs.Build.Stages.{wants}
use Rattle.routes.specs.Invariant.Ghosts.{Ghost, still}
use Rattle.routes.specs.Invariant.Readers.{Awaits, Updates, Does}
use Rattle.routes.specs.Invariant.Registers.{holds, holds_in, announced, loaded, passed, passed_in}
use Rattle.routes.specs.Invariant.Holders.{Resting}
use Rattle.routes.specs.Invariant.Checking.{Checked, CheckFacts}
use Rattle.routes.specs.Invariant.Writers.{PhaseFacts, Writer, hall_of}
use Rattle.routes.specs.Invariant.Inv.{Lock, Cpus, Inv, set_cpu}
use Rattle.routes.proofs.Late.Fence.{swap_none}
use Rattle.routes.proofs.Run.Leads.{no_leader, one_led}
use Rattle.routes.proofs.Run.Steps.{now_own, now_other, turned_kind}
use Rattle.routes.proofs.Invariant.Alike.{hidden_led, saying_older}
use Rattle.routes.proofs.Invariant.Kinds.{with_row}
use Rattle.routes.proofs.Invariant.Local.{writer_rests, quiet_late}
use Rattle.routes.proofs.Invariant.Steps.{Turn, turn_on, steps_inv}
use Rattle.routes.proofs.Invariant.WriterWord.{writer_core, writer_leaves}

module _ {m : Mem} {k : Lock} {g : Ghost} {trail : ℕ → List ℕ} {s : State} {t : ℕ} {c : Cpus} (i : Inv m k g trail s t c) (free : k.held ≡ false) where
  -- Nobody holds the lock.
  pub nobody-holds : (q : ℕ) → holds (c.work q) ≡ false
  nobody-holds q = i.holding q ∙ ap (λ z. z && eqb q k.who) free

  -- Nothing is left over.
  pub free_resting : Resting g
  free_resting = writer_rests (view k.who m) (hall_of m) g (c.own k.who) s.table (s.now' k.who) (c.work k.who) (nobody-holds k.who) i.writer

  -- Nothing is late.
  pub free_late : (q : ℕ) → m.late q ≡ []
  free_late q = quiet_late q i (nobody-holds q)

  module _ {p : ℕ} (j : Job) (e : c.work p ≡ Updating j AtLock) (small : p < m.cpus) where
    -- What p does.
    does_lock : Does m.val (Updating j AtLock) (c.own p) (trail p) (s.now' p)
    does_lock = subst (λ w. Does m.val w (c.own p) (trail p) (s.now' p)) e (i.readers p).does

    -- The swap finds it free.
    pub swap_free : swapped p 0 0 0 (p + 1) m ≡ set_word 0 0 (p + 1) m
    swap_free =
        let z : eqb (m.val 0 0) 0 ≡ true = eq-eqb _ _ (i.core.writer ∙ ap (λ b. cond b (suc k.who) 0) free) in
        swap_none p 0 0 0 (p + 1) m (free_late p) ∙ rw z

    module _ {cpus blocks : ℕ} {es : List Event} (r : Run cpus blocks es s) (y : T (young (s.now' p))) where
      -- the state after it
      abbrev after : State
      after = turned_at cpus p (led p s)

      -- The first piece is in hand.
      first : Checked (with_row still g) (c.own p) s.table (after.now' p) j 0
      unfolding Does Updates pieces wants
      first =
          let u = does_lock.1 in
          record {
            resting = record { has = record { row = refl; loose = free_resting.has.loose; fresh = free_resting.has.fresh }; whole = free_resting.whole };
            ps = u.0;
            awaits = subst (Awaits u.0) (sym (now_own p (older (must_wait cpus p (led p s)) (s.now' p)) s.table (led p s))) ((saying_older (must_wait cpus p (led p s)) (s.now' p)).awaits u.0 u.1);
            pending = u.2;
            here = u.2.some;
            passes = (s.table, refl);
            need = ap (λ z. z.need) u.3;
            got = ap (λ z. z.got) u.3;
            used = ap (λ z. z.used) u.3;
            retired = ap (λ z. z.retired) u.3;
          }

      -- The lock is got, and its update leads from here on.
      pub lock_got : Turn (counted (swapped p 0 0 0 (p + 1) m)) t (set_cpu p (Updating j (Check (AtPiece 0))) (c.own p) c) cpus blocks (Turned p ∷ es) p s
      unfolding holds holds_in announced loaded passed passed_in Does Updates Writer PhaseFacts CheckFacts is_change
      lock_got =
          let u = does_lock.1 in
          let none : leader cpus p s ≡ false = no_leader cpus p s (λ q ne. i.leads q ∙ ap (λ z. z && eqb q k.who) free) in
          let run : Run cpus blocks es (led p s) = leads p r u.1.2 (rw none tt) in
          rw swap_free (turn_on (hidden_led p s) run y (steps_inv i (record {
            core = writer_core i.core (free_late k.who) (p + 1) p true (omega arith);
            leaves = λ q. writer_leaves i.core (free_late k.who) (p + 1) (trail q) q (i.readers q).safe;
            nows = λ q ne. now_other p q _ s.table (led p s) ne;
            leads = one_led p k.who s (λ q. i.leads q ∙ ap (λ z. z && eqb q k.who) free);
            others = λ q ne. nobody-holds q;
            mine = refl;
            cpus = refl;
            small = small;
            silent = rw e;
            unloaded = refl;
            does = (does_lock.0, (turned_kind cpus p p (led p s)).change ∙ rw u.1.2);
            room = i.room p small;
            writer = first;
            scanned = λ q b l. absurd (omega arith);
          })))
