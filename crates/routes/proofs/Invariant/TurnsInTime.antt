-- A whole turn: what is left to anything under way is enough then, and after stores have arrived.
use Rattle.std.proofs.Common.{◌≡◌, ℕ, zero, suc, true, not, ◌||◌, List, sym, refl, ap, ◌∙◌, subst, inl, inr, arith}
use Rattle.std.proofs.lemmas.Bool.Decides.{nat_tests as tests, eqb_tells}
use Rattle.std.proofs.lemmas.Bool.{both_ways}
use Rattle.routes.specs.declared.work.Work.{Work}
use Rattle.routes.specs.declared.work.Work.TheVariants.{Idle, Lookup as Looking, Update as Updating}
use Rattle.routes.specs.Memory.{Mem, set_at}
use Rattle.routes.specs.Routes.{Event, Now, Quiet, State, busy, is_question, leader, none, must_wait, young}
use Rattle.routes.specs.Machine.Acts.{Did}
use Rattle.routes.specs.Machine.Cpus.{WorkOk, act, work_after}
use Rattle.routes.specs.Run.Nows.{is_change, age_of}
use Rattle.routes.specs.Run.Steps.{turned_at}
use Rattle.routes.specs.Invariant.Ages.{Aged, SameWork, AgeFacts}
use Rattle.routes.specs.Invariant.Ghosts.{Ghost}
use Rattle.routes.specs.Invariant.Inv.{Lock, Cpus, Inv}
use Rattle.routes.proofs.Basics.Places.{set_at_hit}
use Rattle.routes.proofs.Run.Nows.{SameKind, kind_same, quiet_is, kind_busy}
use Rattle.routes.proofs.Invariant.Alike.{Hidden, Ends, on, told, Passes, same, over, passes_age}
use Rattle.routes.proofs.Invariant.Arriving.{Still}
use Rattle.routes.proofs.Invariant.Steps.{Turn}
use Rattle.routes.proofs.Invariant.AgesKnown.{does_same, age_facts}
use Rattle.routes.proofs.Invariant.InTime.{aged_on, aged_turn, aged_told, aged_young}

-- Who leads beside p says whether p has a leader.
leader_same : (n p : ℕ) (s s' : State) → ((q : ℕ) → (q ≡ p → ⊥) → s'.lead q ≡ s.lead q) → leader n p s' ≡ leader n p s
unfolding leader
leader_same zero p s s' h = refl
leader_same (suc n) p s s' h = let ih = leader_same n p s s' h in let here = h n in grind (arith, tests)

module _ {p : ℕ} {s s' : State} (h : Hidden p s s') where
  -- What is not seen changes no kind
  hidden_kind : (q : ℕ) → SameKind (s.now' q) (s'.now' q)
  hidden_kind q = elim (eqb_tells q p) [
    | inl e ↦ rw e.1 h.kind
    | inr e ↦ rw (h.nows q e.1) (kind_same (s.now' q))
  ]

  -- and no age,
  hidden_age : (q : ℕ) → age_of (s'.now' q) ≡ age_of (s.now' q)
  hidden_age q = elim (eqb_tells q p) [
    | inl e ↦ rw e.1 h.age
    | inr e ↦ ap age_of (h.nows q e.1)
  ]

  -- nor whether p must wait,
  hidden_waits : (cpus : ℕ) → must_wait cpus p s' ≡ must_wait cpus p s
  hidden_waits cpus = ap (λ f. not (none (f p)) || leader cpus p s') h.waits ∙ ap (λ b. not (none (s.waits p)) || b) (leader_same cpus p s s' h.lead)

  -- nor what is left.
  hidden_aged : (cpus : ℕ) (work : ℕ → Work) → Aged cpus s work → Aged cpus s' work
  hidden_aged cpus work = aged_on cpus s s' work hidden_age (λ q. (hidden_kind q).limits) h.waits

-- Registers stay of the kind of what is under way.
same_kind : (w : Work) (n n' : Now) → SameKind n n' → SameWork w n → SameWork w n'
unfolding SameWork busy
same_kind Idle n n' e k = quiet_is n' (kind_busy e ∙ (rw k refl))
same_kind (Looking l) n n' e k = e.question ∙ k
same_kind (Updating j s) n n' e k = e.change ∙ k

-- Where nothing is under way, registers are idle.
same_quiet : (w : Work) → SameWork w Quiet → w ≡ Idle
unfolding SameWork is_question is_change
same_quiet Idle k = refl
same_quiet (Looking l) k = cc
same_quiet (Updating j s) k = cc

-- Nothing under way stays so.
passes_quiet : {n k : Now} → Passes n k → n ≡ Quiet → k ≡ Quiet
passes_quiet same e = e
passes_quiet over e = cc

-- What a turn rests on holds after what is not seen.
facts_hidden : {cpus p : ℕ} {s s' : State} {work : ℕ → Work} {epoch x : ℕ} → Hidden p s s' → AgeFacts cpus p s work epoch x → AgeFacts cpus p s' work epoch x
facts_hidden {cpus} {p} {s} {s'} {work} h f = record {
  kinds = λ q. same_kind (work q) (s.now' q) (s'.now' q) (hidden_kind h q) (f.kinds q);
  outside = f.outside;
  past = f.past;
  loads = f.loads;
  fails = λ j e n. hidden_waits h cpus ∙ f.fails j e n;
  sees = f.sees;
}

-- What arrives leaves what is left.
passes_aged : (cpus : ℕ) (s s' : State) (work : ℕ → Work) → ((q : ℕ) → Passes (s.now' q) (s'.now' q)) → s'.waits ≡ s.waits → Aged cpus s work → Aged cpus s' work
passes_aged cpus s s' work nows waits = aged_on cpus s s' work (λ q. (passes_age (nows q)).0) (λ q. (passes_age (nows q)).1) waits

-- So it is with all that arrives between two turns.
pub still_aged : {m : Mem} {k : Lock} {g : Ghost} {trail : ℕ → List ℕ} {s : State} {t : ℕ} {c : Cpus} {cpus blocks : ℕ} {es : List Event} {m' : Mem} → (a : Still m k g trail s t c cpus blocks es m') →
    Aged m.cpus s c.work → Aged m.cpus a.state c.work
still_aged {m} {s = s} {c = c} a = passes_aged m.cpus s a.state c.work a.nows a.waits

-- The turn is counted, and may be told: then nothing is under way there.
ends_aged : {cpus p : ℕ} {s s' : State} (work : ℕ → Work) → Ends cpus p s s' → (s'.now' p ≡ Quiet → work p ≡ Idle) → Aged cpus (turned_at cpus p s) work → Aged cpus s' work
ends_aged work on idle aged = aged
ends_aged {cpus} {p} {s} work told idle aged = aged_told cpus p (turned_at cpus p s) work (idle (set_at_hit p p Quiet (turned_at cpus p s).now' refl)) aged

module _ {m : Mem} {k : Lock} {g : Ghost} {trail : ℕ → List ℕ} {s : State} {t : ℕ} {c : Cpus} (i : Inv m k g trail s t c) (aged : Aged m.cpus s c.work) (p : ℕ) (ok : WorkOk (c.work p) (c.own p)) where
  -- What is under way may have another turn.
  pub young_turn : busy (s.now' p) ≡ true → young (s.now' p) ≡ true
  unfolding SameWork busy
  young_turn under = aged_young m.cpus p s c.work (c.own p) i.core.sizes.someone ok (λ idle. both_ways _ (rw (quiet idle) refl) under) aged
    where
      quiet : c.work p ≡ Idle → s.now' p ≡ Quiet
      quiet idle = rw idle at (does_same m.val (c.work p) (c.own p) (trail p) (s.now' p) (i.readers p).does)

  -- After a turn, whatever was told in it and has arrived since, what is left to anything under way is enough.
  pub turn_aged : (x : ℕ) (n : Mem) → Did p (act p (c.work p) (c.own p)) m x n → {m' : Mem} {t' : ℕ} {c' : Cpus} {blocks : ℕ} {es : List Event} →
      (a : Turn m' t' c' m.cpus blocks es p s) → c'.work ≡ set_at p (work_after m.cpus (c.work p) (c.own p) x) c.work → Aged m.cpus a.state c'.work
  turn_aged x n did {m'} {t'} {c'} a e = passes_aged m.cpus a.middle a.state c'.work a.nows a.waits (ends_aged c'.work a.ends idle counted')
    where
      counted' : Aged m.cpus (turned_at m.cpus p a.before) c'.work
      counted' = subst (Aged m.cpus (turned_at m.cpus p a.before)) (sym e)
          (aged_turn m.cpus p a.before c.work (m.val 0 2) x (facts_hidden a.hidden (age_facts i p x n did)) (hidden_aged a.hidden m.cpus c.work aged) (c.own p) i.core.sizes.someone ok)

      idle : a.middle.now' p ≡ Quiet → c'.work p ≡ Idle
      idle quiet =
          let now : a.state.now' p ≡ Quiet = passes_quiet (a.nows p) quiet in
          same_quiet (c'.work p) (subst (SameWork (c'.work p)) now (does_same m'.val (c'.work p) (c'.own p) (a.trail p) (a.state.now' p) (a.inv.readers p).does))
