-- The lock is given up in the turn in which an update is told.
use Rattle.std.proofs.Common.{◌≡◌, ℕ, ◌+◌, ◌-◌, true, false, T, eqb, List, [], ◌∷◌, refl, ap, ◌∙◌, subst, arith}
use Rattle.std.proofs.lemmas.Bool.{eq-eqb}
use Rattle.own.specs.Layout.{words_of}
use Rattle.routes.specs.declared.Answer.{Answer}
use Rattle.routes.specs.declared.Answer.TheVariants.{Done, Full as FullAnswer, No}
use Rattle.routes.specs.declared.Ask.TheVariants.{Change}
use Rattle.routes.specs.declared.refusal.Refusal.{Refusal}
use Rattle.routes.specs.declared.update.job.Job.{Job}
use Rattle.routes.specs.declared.update.check.Check.TheVariants.{Reject}
use Rattle.routes.specs.declared.update.finish.Finish.TheVariants.{Unlock}
use Rattle.routes.specs.declared.update.obtain.Obtain.TheVariants.{Full}
use Rattle.routes.specs.declared.update.Phase.{Phase}
use Rattle.routes.specs.declared.update.Phase.TheVariants.{Check, Obtain, Finish}
use Rattle.routes.specs.declared.work.Work.TheVariants.{Idle, Update as Updating}
use Rattle.routes.specs.Memory.{Mem, counted, fenced, swapped}
use Rattle.routes.specs.Refusals.{number_of}
use Rattle.routes.specs.Routes.{Route, Event, Told, Turned, Now, State, Run, young}
use Rattle.routes.specs.Counts.Counts.{seg}
use Rattle.routes.specs.Late.Steps.{set_word}
use Rattle.routes.specs.Run.Steps.{turned_at}
use Rattle.routes.specs.Invariant.Ghosts.{Ghost}
use Rattle.routes.specs.Invariant.Readers.{Settled, Does}
use Rattle.routes.specs.Invariant.Registers.{holds, announced, loaded, passed}
use Rattle.routes.specs.Invariant.Checking.{CheckFacts}
use Rattle.routes.specs.Invariant.Gathering.{ObtainFacts}
use Rattle.routes.specs.Invariant.Retiring.{FinishFacts}
use Rattle.routes.specs.Invariant.Writers.{Hall, PhaseFacts, Writer}
use Rattle.routes.specs.Invariant.Inv.{Cpus, Inv, set_cpu}
use Rattle.routes.proofs.Late.Fence.{fence_arrives_lem, fence_empties, swap_none}
use Rattle.routes.proofs.Run.Leads.{one_told_own}
use Rattle.routes.proofs.Run.Steps.{now_own, now_other}
use Rattle.routes.proofs.Invariant.Alike.{alike_same, alike_hidden}
use Rattle.routes.proofs.Invariant.Calm.{plain}
use Rattle.routes.proofs.Invariant.PlainArrives.{plain_arrives}
use Rattle.routes.proofs.Invariant.Steps.{lock_of, Turn, turn_told, steps_inv, holds_silent}
use Rattle.routes.proofs.Invariant.Holding.{holder_facts, holder_holds, others_free, holder_small, holder_does, holder_room}
use Rattle.routes.proofs.Invariant.WriterWord.{writer_core, writer_leaves}

-- an update is to be told a, and leaves nothing over but late stores to LIMBO_HEAD and LIMBO_TAIL
pub record Parting (g : Ghost) (a : Answer) (n : Now) : Type 0 where
  pub settled : Settled a n
  pub row : plain g.row ≡ true
  pub loose : g.loose ≡ []
  pub fresh : g.fresh ≡ []
  pub whole : g.torn ≡ false

-- in this phase an update is to be told a
abbrev pub Parts : Job → Phase → Answer → Type 0
Parts j ph a = (v : ℕ → ℕ → ℕ) (hall : Hall) (g : Ghost) (o : List ℕ) (rs : List Route) (n : Now) → PhaseFacts v hall g o rs n j ph → Parting g a n

-- An update that is turned away is so.
pub reject_parts : (j : Job) (why : Refusal) → Parts j (Check (Reject why)) (No (number_of why))
unfolding PhaseFacts CheckFacts plain
reject_parts j why v hall g o rs n f = record { settled = f.1; row = ap plain f.0.has.row; loose = f.0.has.loose; fresh = f.0.has.fresh; whole = f.0.whole }

-- So is one that there was no room for.
pub full_parts : (j : Job) → Parts j (Obtain Full) FullAnswer
unfolding PhaseFacts ObtainFacts seg plain
full_parts j v hall g o rs n f = record
    { settled = f.0.full; row = ap plain f.0.has.row; loose = f.0.has.loose; fresh = f.0.has.fresh ∙ ap (λ z. seg (words_of o) 320 z) f.1; whole = f.0.whole }

-- So is one that is done.
pub done_parts : (j : Job) → Parts j (Finish Unlock) Done
unfolding PhaseFacts FinishFacts seg plain
done_parts j v hall g o rs n f =
    let z : j.got - j.used ≡ 0 = omega (arith, f.1) in
    let h = f.0.retires.has in
    record { settled = f.0.retires.done; row = ap plain h.row; loose = h.loose; fresh = h.fresh ∙ ap (λ i. seg (words_of o) (320 + j.used) i) z; whole = f.0.whole }

module _ {m : Mem} {g : Ghost} {trail : ℕ → List ℕ} {s : State} {t : ℕ} {c : Cpus} {p cpus blocks : ℕ} {es : List Event}
    (i : Inv m (lock_of p true) g trail s t c) (none : m.late p ≡ []) (a : Answer) (f : Parting g a (s.now' p)) (r : Run cpus blocks es s) (y : T (young (s.now' p))) where
  -- The swap finds the lock as it was left.
  swap_own : swapped p 0 0 (p + 1) 0 m ≡ set_word 0 0 0 m
  swap_own = let z : eqb (m.val 0 0) (p + 1) ≡ true = eq-eqb _ _ (i.core.writer ∙ omega arith) in swap_none p 0 0 (p + 1) 0 m none ∙ rw z

  -- Where nothing is late, the lock is given up and the answer is told.
  unlock_step : Turn (counted (swapped p 0 0 (p + 1) 0 m)) t (set_cpu p Idle (c.own p) c) cpus blocks (Told p a ∷ Turned p ∷ es) p s
  unfolding holds announced loaded passed Does Writer
  unlock_step = rw swap_own (turn_told (Change f.settled.0) a f.settled.1 (alike_hidden (alike_same p s)) r y f.settled.2 (steps_inv i (record {
    core = writer_core i.core none 0 p false refl;
    leaves = λ q. writer_leaves i.core none 0 (trail q) q (i.readers q).safe;
    nows = λ q ne. now_other p q _ s.table (turned_at cpus p s) ne ∙ now_other p q _ s.table s ne;
    leads = one_told_own p true (turned_at cpus p s) i.leads;
    others = others_free i;
    mine = refl;
    cpus = refl;
    small = holder_small i;
    silent = (holds_silent (c.work p) (holder_holds i)).0;
    unloaded = refl;
    does = ((holder_does i).0, now_own p _ s.table (turned_at cpus p s));
    room = holder_room i;
    writer = record { has = record { row = refl; loose = f.loose; fresh = f.fresh }; whole = f.whole };
    scanned = λ q b l. absurd (omega arith);
  })))

-- What is late arrives, and then the lock is given up.
pub unlock_turn : {m : Mem} {g : Ghost} {trail : ℕ → List ℕ} {s : State} {t : ℕ} {c : Cpus} {p cpus blocks : ℕ} {es : List Event} (j : Job) (ph : Phase) (a : Answer) → Parts j ph a →
    Inv m (lock_of p true) g trail s t c → Run cpus blocks es s → T (young (s.now' p)) → c.work p ≡ Updating j ph →
    Turn (counted (swapped p 0 0 (p + 1) 0 m)) t (set_cpu p Idle (c.own p) c) cpus blocks (Told p a ∷ Turned p ∷ es) p s
unlock_turn {m} {g} {trail} {s} {t} {c} {p} {cpus} {blocks} {es} j ph a parts i r y e =
    subst (λ n. Turn (counted n) t (set_cpu p Idle (c.own p) c) cpus blocks (Told p a ∷ Turned p ∷ es) p s) (swap_none p 0 0 (p + 1) 0 (fenced p m) (fence_empties p m))
    (unlock_step (plain_arrives (fence_arrives_lem p m) f.row i) (fence_empties p m) a f r y)
  where
    f : Parting g a (s.now' p)
    f = parts _ _ g (c.own p) s.table (s.now' p) (holder_facts i j ph e)
