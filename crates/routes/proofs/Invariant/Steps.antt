-- A step of the lock's holder, or one that gets or gives up the lock: what has to be shown of it.
use Rattle.std.proofs.Common.{◌≡◌, ℕ, ◌<◌, ◌≤◌, Bool, true, false, T, eqb, List, ◌∷◌, length, sym, refl, ◌∙◌, subst, inl, inr, arith}
use Rattle.std.proofs.lemmas.Bool.Decides.{nat_tests as tests, eqb_tells}
use Rattle.std.proofs.lemmas.Bool.{false≢true, and_parts, eqb-true, cases_lt}
use Rattle.routes.specs.declared.Answer.{Answer}
use Rattle.routes.specs.declared.Ask.{Ask}
use Rattle.routes.specs.declared.work.Work.{Work}
use Rattle.routes.specs.declared.work.Work.TheVariants.{Idle, Lookup as Looking, Update as Updating}
use Rattle.routes.specs.Memory.{Mem, set_at}
use Rattle.routes.specs.Routes.{Event, Told, Turned, Over, State, Run, turns, tells, young}
use Rattle.routes.specs.Counts.Counts.{cnt}
use Rattle.routes.specs.Late.View.{view}
use Rattle.routes.specs.Run.Nows.{OneLeader}
use Rattle.routes.specs.Run.Steps.{turned_at, told_at}
use Rattle.routes.specs.Invariant.Ghosts.{Ghost, limbo}
use Rattle.routes.specs.Invariant.Memories.{Core}
use Rattle.routes.specs.Invariant.Readers.{Does, Reader}
use Rattle.routes.specs.Invariant.Registers.{holds, announced, loaded, passed}
use Rattle.routes.specs.Invariant.Writers.{Writer, hall_of}
use Rattle.routes.specs.Invariant.Inv.{Lock, Cpus, Inv, set_cpu}
use Rattle.routes.proofs.Basics.Places.{set_at_hit}
use Rattle.routes.proofs.Run.Steps.{turned_over}
use Rattle.routes.proofs.Invariant.Alike.{Hidden, Ends, on, told, Passes, same}
use Rattle.routes.proofs.Invariant.Rely.{Leaves, reader_stays}

-- p has the lock, or had it last
abbrev pub lock_of : ℕ → Bool → Lock
lock_of p held = record { who = p; held = held }

-- what a turn of p leads to from state s: the invariant of the new memory and registers, a run of what was seen, and how its state comes from s:
-- first hidden steps of p, then the turn is counted and may be told, then stores arrive
pub record Turn (m : Mem) (t : ℕ) (c : Cpus) (cpus blocks : ℕ) (es : List Event) (p : ℕ) (s : State) : Type 0 where
  pub lock : Lock
  pub ghost : Ghost
  pub trail : ℕ → List ℕ
  pub state : State
  pub run : Run cpus blocks es state
  pub inv : Inv m lock ghost trail state t c
  pub before : State
  pub hidden : Hidden p s before
  pub middle : State
  pub ends : Ends cpus p before middle
  pub nows : (q : ℕ) → Passes (middle.now' q) (state.now' q)
  pub waits : state.waits ≡ middle.waits

-- A turn in which nothing is told, right after it was asked.
pub turn_on : {m : Mem} {t : ℕ} {c : Cpus} {cpus blocks : ℕ} {es : List Event} {p : ℕ} {s s' : State} {k : Lock} {g : Ghost} {trail : ℕ → List ℕ} →
    Hidden p s s' → Run cpus blocks es s' → T (young (s'.now' p)) → Inv m k g trail (turned_at cpus p s') t c → Turn m t c cpus blocks (Turned p ∷ es) p s
turn_on {cpus = cpus} {p = p} {s' = s'} {k = k} {g = g} {trail = trail} h r y i = record
    { lock = k; ghost = g; trail = trail; state = turned_at cpus p s'; run = turns p r y; inv = i; before = s'; hidden = h; middle = turned_at cpus p s'; ends = on; nows = λ q. same; waits = refl }

-- A turn in which p tells its answer.
pub turn_told : {m : Mem} {t : ℕ} {c : Cpus} {cpus blocks : ℕ} {es : List Event} {p : ℕ} {s s' : State} {k : Lock} {g : Ghost} {trail : ℕ → List ℕ} (ask : Ask) (a : Answer) (age : ℕ) →
    Hidden p s s' → Run cpus blocks es s' → T (young (s'.now' p)) → s'.now' p ≡ Over ask a age → Inv m k g trail (told_at p (turned_at cpus p s')) t c → Turn m t c cpus blocks (Told p a ∷ Turned p ∷ es) p s
turn_told {cpus = cpus} {p = p} {s' = s'} {k = k} {g = g} {trail = trail} ask a age h r y e i = record {
  lock = k;
  ghost = g;
  trail = trail;
  state = told_at p (turned_at cpus p s');
  run = tells p (turns p r y) (turned_over cpus p s' ask a age e);
  inv = i;
  before = s';
  hidden = h;
  middle = told_at p (turned_at cpus p s');
  ends = told;
  nows = λ q. same;
  waits = refl;
}

-- what has to be shown of the new state: p has the lock then, or has just given it up
pub record Steps (m : Mem) (g : Ghost) (trail : ℕ → List ℕ) (s : State) (c : Cpus) (p : ℕ) (held' : Bool) (m' : Mem) (g' : Ghost) (s' : State) (t : ℕ) (work : Work) (own : List ℕ) : Type 0 where
  pub core : Core m' p held' g' s'.table t
  pub leaves : (q : ℕ) → Leaves m g m' g' (trail q) q
  pub nows : (q : ℕ) → (q ≡ p → ⊥) → s'.now' q ≡ s.now' q
  pub leads : OneLeader held' p s'
  pub others : (q : ℕ) → (q ≡ p → ⊥) → holds (c.work q) ≡ false
  pub mine : holds work ≡ held'
  pub cpus : m'.cpus ≡ m.cpus
  pub small : p < m.cpus
  pub silent : announced (c.work p) ≡ announced work
  pub unloaded : loaded work ≡ 0
  pub does : Does m'.val work own (trail p) (s'.now' p)
  pub room : length own ≡ 4096
  pub writer : Writer (view p m') (hall_of m') g' own s'.table (s'.now' p) work
  pub scanned : (q b : ℕ) → q < (passed m.cpus work).many → 1 ≤ cnt b (trail q) → 1 ≤ limbo g' b → (passed m.cpus work).limit ≤ g'.stamps b

-- Then the invariant holds of it.
pub steps_inv : {m : Mem} {k : Lock} {g : Ghost} {trail : ℕ → List ℕ} {s : State} {t : ℕ} {c : Cpus} {p : ℕ} {held' : Bool} {m' : Mem} {g' : Ghost} {s' : State} {t' : ℕ} {work : Work} {own : List ℕ} →
    Inv m k g trail s t c → Steps m g trail s c p held' m' g' s' t' work own → Inv m' (lock_of p held') g' trail s' t' (set_cpu p work own c)
steps_inv {m} {k} {g} {trail} {s} {t} {c} {p} {held'} {m'} {g'} {s'} {t'} {work} {own} i n = record {
  core = n.core;
  readers = λ q. elim (eqb_tells q p) [
    | inl e ↦ subst (λ z. Reader m' g' (trail z) z (set_at p work c.work z) (set_at p own c.own z) (s'.now' z)) (sym e.1) (rw (set_at_hit p p work c.work refl, set_at_hit p p own c.own refl) mine)
    | inr e ↦ rw (e.0, n.nows q e.1) (kept q)
  ];
  leads = n.leads;
  holding = λ q. (let a = n.others q in let b = n.mine in grind (arith, tests));
  outside = λ q l. elim (eqb_tells q p) [
    | inl e ↦ absurd (omega (arith, n.cpus, n.small, e.1))
    | inr e ↦ rw e.0 (i.outside q (omega (arith, n.cpus)))
  ];
  room = λ q l. elim (eqb_tells q p) [
    | inl e ↦ rw e.0 n.room
    | inr e ↦ rw e.0 (i.room q (omega (arith, n.cpus)))
  ];
  writer = rw (set_at_hit p p work c.work refl, set_at_hit p p own c.own refl) n.writer;
  scanned = rw (set_at_hit p p work c.work refl, n.cpus) n.scanned;
}
  where
    kept : (q : ℕ) → Reader m' g' (trail q) q (c.work q) (c.own q) (s.now' q)
    kept q = reader_stays (n.leaves q) (i.readers q)

    mine : Reader m' g' (trail p) p work own (s'.now' p)
    mine = record { active = (kept p).active ∙ n.silent; old = rw n.unloaded (omega arith); does = n.does; safe = (kept p).safe; clear = λ b a d. rw n.unloaded (omega arith) }

-- It may be said for any later turn.
pub inv_later : {m : Mem} {k : Lock} {g : Ghost} {trail : ℕ → List ℕ} {s : State} {t t' : ℕ} {c : Cpus} → t ≤ t' → Inv m k g trail s t c → Inv m k g trail s t' c
inv_later {m} {k} {g} {s = s} {t = t} {t' = t'} l i = record {
  core = record {
    sizes = o.sizes;
    others = o.others;
    row = o.row;
    writer = o.writer;
    root = o.root;
    repr = o.repr;
    good = o.good;
    blocks = o.blocks;
    inside = o.inside;
    sight = record { ahead = o.sight.ahead; early = omega (arith, o.sight.early); linked = o.sight.linked; ending = o.sight.ending; stamped = o.sight.stamped; newest = o.sight.newest };
  };
  readers = i.readers;
  leads = i.leads;
  holding = i.holding;
  outside = i.outside;
  room = i.room;
  writer = i.writer;
  scanned = i.scanned;
}
  where
    o : Core m k.who k.held g s.table t
    o = i.core

-- Registers that hold the lock announce nothing and have loaded no epoch.
pub holds_silent : (work : Work) → holds work ≡ true → (announced work ≡ 0) × (loaded work ≡ 0)
unfolding holds announced loaded
holds_silent Idle e = absurd (false≢true e)
holds_silent (Looking l) e = absurd (false≢true e)
holds_silent (Updating j s) e = (refl, refl)

module _ {m : Mem} {k : Lock} {g : Ghost} {trail : ℕ → List ℕ} {s : State} {t : ℕ} {c : Cpus} (i : Inv m k g trail s t c) (p : ℕ) where
  -- Who has registers that hold the lock has it.
  pub holder_is : holds (c.work p) ≡ true → k ≡ lock_of p true
  holder_is h =
      let a = and_parts k.held (eqb p k.who) (sym (i.holding p) ∙ h) in
      let e : k.who ≡ p = sym (eqb-true p k.who a.1) in
      rw (a.0, e) refl

  -- Registers that are not idle are those of a processor that there is.
  pub busy_small : (c.work p ≡ Idle → ⊥) → p < m.cpus
  busy_small ne = elim (cases_lt p m.cpus) [ inl l ↦ l | inr l ↦ absurd (ne (i.outside p l)) ]
