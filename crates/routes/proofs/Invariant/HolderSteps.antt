-- A step of the lock's holder that keeps it: what is shown of it by the registers that follow, and that it is a turn.
use Rattle.std.proofs.Common.{◌≡◌, ℕ, ◌<◌, ◌≤◌, true, T, ◌⊎◌, List, [], ◌∷◌, length, sym, refl, ap, subst, inl, inr, arith}
use Rattle.std.proofs.lemmas.Bool.{cases_lt, false≢true}
use Rattle.routes.specs.declared.lookup.Lookup.TheVariants.{Epoch, Announce, Root, Node, Leave}
use Rattle.routes.specs.declared.update.job.Job.{Job}
use Rattle.routes.specs.declared.update.Phase.{Phase}
use Rattle.routes.specs.declared.work.Work.{Work}
use Rattle.routes.specs.declared.work.Work.TheVariants.{Idle, Lookup as Looking, Update as Updating}
use Rattle.routes.specs.Memory.{Mem, counted}
use Rattle.routes.specs.Routes.{Route, Now, State, Event, Turned, Run, young}
use Rattle.routes.specs.Counts.Counts.{cnt}
use Rattle.routes.specs.Late.View.{view}
use Rattle.routes.specs.Invariant.Ghosts.{Ghost, limbo}
use Rattle.routes.specs.Invariant.Memories.{Core}
use Rattle.routes.specs.Invariant.Readers.{LooksUp, Does}
use Rattle.routes.specs.Invariant.Registers.{loaded, loaded_in, announced, announced_in, holds, passed, passed_in, passed_by}
use Rattle.routes.specs.Invariant.Writers.{Writer, PhaseFacts, hall_of}
use Rattle.routes.specs.Invariant.Inv.{Inv, Cpus, set_cpu}
use Rattle.routes.proofs.Invariant.Rely.{Leaves, leaves_same}
use Rattle.routes.proofs.Invariant.Holding.{core_counted, hold_turn, holder_scanned}
use Rattle.routes.proofs.Invariant.Alike.{Alike}
use Rattle.routes.proofs.Invariant.Steps.{lock_of, Turn}

-- what is on a trail that this scan has passed, and is retired, was retired at its limit or later
abbrev pub Scanned : ℕ → Ghost → (ℕ → List ℕ) → Work → Type 0
Scanned cpus g trail work = (q b : ℕ) → q < (passed cpus work).many → 1 ≤ cnt b (trail q) → 1 ≤ limbo g b → (passed cpus work).limit ≤ g.stamps b

-- after it the memory is m', and the holder p has these own words and registers; n is its change then
pub record HolderStep (m : Mem) (p : ℕ) (g : Ghost) (trail : ℕ → List ℕ) (rs : List Route) (t : ℕ) (n : Now) (m' : Mem) (own : List ℕ) (work : Work) : Type 0 where
  pub ghost : Ghost
  pub core : Core m' p true ghost rs t
  pub leaves : (q : ℕ) → Leaves m g m' ghost (trail q) q
  pub facts : Writer (view p m') (hall_of m') ghost own rs n work
  pub scanned : Scanned m.cpus ghost trail work
  pub holding : holds work ≡ true

-- A lookup that has announced nothing has no trail.
pub no_trail : (val : ℕ → ℕ → ℕ) (work : Work) (o trail : List ℕ) (n : Now) → announced work ≡ 0 → Does val work o trail n → trail ≡ []
unfolding announced announced_in Does LooksUp
no_trail val Idle o trail n e d = d.0
no_trail val (Looking (Epoch a)) o trail n e d = d.0
no_trail val (Looking (Announce a x)) o trail n e d = d.0
no_trail val (Looking (Root a x)) o trail n e d = d.0
no_trail val (Looking (Node a x l b best)) o trail n e d = absurd (omega arith)
no_trail val (Looking (Leave x best)) o trail n e d = d.0
no_trail val (Updating j s) o trail n e d = d.0

-- What is announced was loaded.
pub announced-loaded : (work : Work) → announced work ≤ loaded work
unfolding announced announced_in loaded loaded_in
announced-loaded Idle = omega arith
announced-loaded (Looking (Epoch a)) = omega arith
announced-loaded (Looking (Announce a x)) = omega arith
announced-loaded (Looking (Root a x)) = omega arith
announced-loaded (Looking (Node a x l b best)) = omega arith
announced-loaded (Looking (Leave x best)) = omega arith
announced-loaded (Updating j s) = omega arith

module _ {m : Mem} {g : Ghost} {trail : ℕ → List ℕ} {s : State} {t : ℕ} {c : Cpus} {p : ℕ} (i : Inv m (lock_of p true) g trail s t c) where
  -- Who has announced nothing, or an epoch not before the limit, will touch nothing that was retired before the limit.
  pub stand_past : (q limit b : ℕ) → (announced (c.work q) ≡ 0) ⊎ (limit < announced (c.work q)) → 1 ≤ cnt b (trail q) → 1 ≤ limbo g b → limit ≤ g.stamps b
  unfolding cnt
  stand_past q limit b w a f = elim w [
    | inl d ↦ absurd (let n : trail q ≡ [] = no_trail _ (c.work q) _ (trail q) _ d (i.readers q).does in let z : 1 ≤ cnt b [] = rw n at a in omega arith)
    | inr d ↦ omega (arith, announced-loaded (c.work q), (i.readers q).clear b a f)
  ]

  -- Past the last processor there are no trails.
  pub outside_trail : (q : ℕ) → m.cpus ≤ q → trail q ≡ []
  unfolding announced
  outside_trail q l = no_trail _ (c.work q) _ (trail q) _ (ap announced (i.outside q l)) (i.readers q).does

  -- After a whole scan nothing that was retired before its limit is on a trail.
  pub off_trail : (j : Job) (ph : Phase) (limit b : ℕ) → c.work p ≡ Updating j ph → passed_in m.cpus ph ≡ passed_by m.cpus limit → 1 ≤ limbo g b → g.stamps b < limit → (q : ℕ) → 1 ≤ cnt b (trail q) → ⊥
  unfolding cnt
  off_trail j ph limit b e whole f l q a = elim (cases_lt q m.cpus) [
    | inl small ↦ (let z : q < (passed_in m.cpus ph).many → limit ≤ g.stamps b = subst (λ z. q < (passed_in m.cpus ph).many → z.limit ≤ g.stamps b) whole (λ y. holder_scanned i j ph e q b y a f) in
        let y : q < (passed_in m.cpus ph).many = subst (λ z. q < z.many) (sym whole) small in omega (arith, z y))
    | inr large ↦ (let z : 1 ≤ cnt b [] = rw (outside_trail q large) at a in omega arith)
  ]

  -- A load, by which nothing changes but registers.
  pub loads : (n : Now) (own : List ℕ) (work : Work) → Writer (view p m) (hall_of m) g own s.table n work → Scanned m.cpus g trail work → holds work ≡ true →
      HolderStep m p g trail s.table t n (counted m) own work
  unfolding view
  loads n own work f z h = record { ghost = g; core = core_counted i.core; leaves = λ q. leaves_same g (trail q) q refl; facts = f; scanned = z; holding = h }

-- Such a step is a turn, in which a hidden step may have been taken before.
pub step_turn : {m : Mem} {g : Ghost} {trail : ℕ → List ℕ} {s : State} {t : ℕ} {c : Cpus} {p cpus blocks : ℕ} {es : List Event} {s' : State} {m' : Mem} (own : List ℕ) (work : Work) →
    Inv m (lock_of p true) g trail s t c → Alike p s s' → Run cpus blocks es s' → T (young (s'.now' p)) → m'.cpus ≡ m.cpus → length own ≡ 4096 →
    HolderStep m p g trail s.table t (s'.now' p) m' own work → Turn m' t (set_cpu p work own c) cpus blocks (Turned p ∷ es) p s
unfolding holds Writer passed
step_turn own Idle i a r y same room n = absurd (false≢true n.holding)
step_turn own (Looking l) i a r y same room n = absurd (false≢true n.holding)
step_turn {m} {g} {trail} {s} {t} {c} {p} {s' = s'} {m' = m'} own (Updating j ph) i a r y same room n = hold_turn i a r y (record {
  core = subst (λ rs. Core m' p true n.ghost rs t) (sym a.table) n.core;
  leaves = n.leaves;
  cpus = same;
  holds' = n.holding;
  room = room;
  facts = subst (λ rs. PhaseFacts (view p m') (hall_of m') n.ghost own rs (s'.now' p) j ph) (sym a.table) n.facts;
  scanned = n.scanned;
})
