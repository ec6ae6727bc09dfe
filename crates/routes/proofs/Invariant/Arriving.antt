-- Arriving keeps the invariant.
use Rattle.std.proofs.Common.{◌≡◌, ℕ, ◌≤◌, true, List, [], ◌∷◌, refl, ap, ◌∙◌, inl, inr, arith}
use Rattle.std.proofs.lemmas.Bool.Decides.{nat_tests as tests, eqb_tells}
use Rattle.std.proofs.lemmas.Bool.{ne_eqb}
use Rattle.routes.specs.declared.Ask.TheVariants.{Change}
use Rattle.routes.specs.Memory.{Mem, Store, Arrives, rest, one, oldest}
use Rattle.routes.specs.Routes.{Event, Under, State, Run}
use Rattle.routes.specs.Counts.Counts.{cnt}
use Rattle.routes.specs.Late.Steps.{landed}
use Rattle.routes.specs.Invariant.Ghosts.{Ghost}
use Rattle.routes.specs.Invariant.Inv.{Lock, Cpus, Inv}
use Rattle.routes.proofs.Late.Arriving.{oldest_none, oldest_some}
use Rattle.routes.proofs.Invariant.Alike.{Passes, same, over, passes_on}
use Rattle.routes.proofs.Invariant.Calm.{plain, calm_inv}
use Rattle.routes.proofs.Invariant.Ripening.{RipeAt, writer_row}
use Rattle.routes.proofs.Invariant.Steps.{Turn}
use Rattle.routes.proofs.Invariant.Moment.{after, published, settled, root_late, moment_inv, moment_run, gone_apart}

-- m' is m after arriving: ghosts and state may have changed by the moment of a change, and nothing else has
pub record Still (m : Mem) (k : Lock) (g : Ghost) (trail : ℕ → List ℕ) (s : State) (t : ℕ) (c : Cpus) (cpus blocks : ℕ) (es : List Event) (m' : Mem) : Type 0 where
  pub ghost : Ghost
  pub state : State
  pub run : Run cpus blocks es state
  pub inv : Inv m' k ghost trail state t c
  pub waits : state.waits ≡ s.waits
  pub lead : state.lead ≡ s.lead
  pub nows : (q : ℕ) → Passes (s.now' q) (state.now' q)
  pub others : (q : ℕ) → (q ≡ k.who → ⊥) → state.now' q ≡ s.now' q
  pub chain : ghost.chain ≡ g.chain
  pub stamps : (b : ℕ) → 1 ≤ cnt b g.chain → ghost.stamps b ≡ g.stamps b
  pub held : m'.held ≡ m.held
  pub cpus' : m'.cpus ≡ m.cpus
  pub blocks' : m'.blocks ≡ m.blocks

module _ {m : Mem} {k : Lock} {g : Ghost} {trail : ℕ → List ℕ} {s : State} {t : ℕ} {c : Cpus} {cpus blocks : ℕ} {es : List Event} (i : Inv m k g trail s t c) (r : Run cpus blocks es s) where
  -- Where nothing arrives.
  pub still_same : Still m k g trail s t c cpus blocks es m
  still_same = record { ghost = g; state = s; run = r; inv = i; waits = refl; lead = refl; nows = λ q. same; others = λ q ne. refl; chain = refl; stamps = λ b u. refl; held = refl; cpus' = refl; blocks' = refl }

  -- A calm store.
  still_calm : (x : Store) (xs : List Store) → plain g.row ≡ true → m.late k.who ≡ x ∷ xs → Still m k g trail s t c cpus blocks es (landed k.who x xs m)
  still_calm x xs p late = record
      { ghost = g; state = s; run = r; inv = calm_inv x xs i p late; waits = refl; lead = refl; nows = λ q. same; others = λ q ne. refl; chain = refl; stamps = λ b u. refl; held = refl; cpus' = refl; blocks' = refl }

  -- The new root.
  still_moment : (a : RipeAt g (c.own k.who) s.table (s.now' k.who) (c.work k.who)) → Still m k g trail s t c cpus blocks es (after i a)
  still_moment a = record {
    ghost = published i a;
    state = settled i a;
    run = moment_run i a r;
    inv = moment_inv i a;
    waits = refl;
    lead = refl;
    nows = λ q. elim (eqb_tells q k.who) [
      | inl e ↦ rw e.0 (let n : s.now' q ≡ Under (Change a.ripens.awaits.0) a.ripens.ps a.ripens.awaits.1 = ap s.now' e.1 ∙ a.ripens.awaits.2 in rw n over)
      | inr e ↦ rw e.0 same
    ];
    others = λ q ne. rw (ne_eqb q k.who ne) refl;
    chain = refl;
    stamps = λ b u. (let z = gone_apart i a b u in grind (arith, tests));
    held = refl;
    cpus' = refl;
    blocks' = refl;
  }

  -- The oldest store of the one who may have any.
  own_arrives : Still m k g trail s t c cpus blocks es (oldest k.who (m.late k.who) m)
  unfolding oldest
  own_arrives = elim (writer_row _ _ g (c.own k.who) s.table (s.now' k.who) (c.work k.who) i.writer) [
    | inl p ↦ calmly (m.late k.who) refl p
    | inr a ↦ rw (oldest_some k.who _ [] m (root_late i a)) (still_moment a)
  ]
    where
      calmly : (row : List Store) → m.late k.who ≡ row → plain g.row ≡ true → Still m k g trail s t c cpus blocks es (oldest k.who row m)
      calmly [] e p = still_same
      calmly (x ∷ xs) e p = still_calm x xs p e

  -- The oldest store of anybody.
  one_arrives : (q : ℕ) → Still m k g trail s t c cpus blocks es (oldest q (m.late q) m)
  one_arrives q = elim (eqb_tells q k.who) [
    | inl e ↦ rw e.1 own_arrives
    | inr e ↦ rw (oldest_none q m (i.core.others q e.1)) still_same
  ]

-- Whatever arrives, the invariant stays.
pub arrives_inv : {m n : Mem} {k : Lock} {g : Ghost} {trail : ℕ → List ℕ} {s : State} {t : ℕ} {c : Cpus} {cpus blocks : ℕ} {es : List Event} → Arrives m n → Inv m k g trail s t c → Run cpus blocks es s →
    Still m k g trail s t c cpus blocks es n
arrives_inv (rest m) i r = still_same i r
arrives_inv (one {m = m} q a) i r =
    let x = one_arrives i r q in
    let y = arrives_inv a x.inv x.run in
    record {
      ghost = y.ghost;
      state = y.state;
      run = y.run;
      inv = y.inv;
      waits = y.waits ∙ x.waits;
      lead = y.lead ∙ x.lead;
      nows = λ q. passes_on (x.nows q) (y.nows q);
      others = λ q ne. y.others q ne ∙ x.others q ne;
      chain = y.chain ∙ x.chain;
      stamps = λ b u. y.stamps b (rw x.chain u) ∙ x.stamps b u;
      held = y.held ∙ x.held;
      cpus' = y.cpus' ∙ x.cpus';
      blocks' = y.blocks' ∙ x.blocks';
    }

-- What arrives after a turn keeps what it led to.
pub turn_arrives : {m n : Mem} {t : ℕ} {c : Cpus} {cpus blocks : ℕ} {es : List Event} {p : ℕ} {s : State} → Arrives m n → Turn m t c cpus blocks es p s → Turn n t c cpus blocks es p s
turn_arrives a u =
    let x = arrives_inv a u.inv u.run in
    record {
      lock = u.lock;
      ghost = x.ghost;
      trail = u.trail;
      state = x.state;
      run = x.run;
      inv = x.inv;
      before = u.before;
      hidden = u.hidden;
      middle = u.middle;
      ends = u.ends;
      nows = λ q. passes_on (u.nows q) (x.nows q);
      waits = x.waits ∙ u.waits;
    }
