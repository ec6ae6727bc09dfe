-- A turn of the lock's holder that keeps the lock and tells nothing.
use Rattle.std.proofs.Common.{◌≡◌, ℕ, ◌<◌, ◌≤◌, Bool, true, false, T, List, [], ◌∷◌, length, sym, refl, ap, ◌∙◌, subst, arith}
use Rattle.std.proofs.lemmas.Bool.Decides.{nat_tests as tests}
use Rattle.std.proofs.lemmas.Bool.{false≢true, eq-eqb}
use Rattle.routes.specs.declared.update.job.Job.{Job}
use Rattle.routes.specs.declared.update.Phase.{Phase}
use Rattle.routes.specs.declared.update.Phase.TheVariants.{Refuse, Lock as AtLock, Check, Obtain, Recycle, Scan, Build, Publish, Retire, Reclaim, Finish}
use Rattle.routes.specs.declared.work.Work.{Work}
use Rattle.routes.specs.declared.work.Work.TheVariants.{Idle, Lookup as Looking, Update as Updating}
use Rattle.routes.specs.Memory.{Mem, counted}
use Rattle.routes.specs.Routes.{Route, Event, Turned, Now, State, Run, young, older, must_wait}
use Rattle.routes.specs.Counts.Counts.{cnt}
use Rattle.routes.specs.Late.View.{view}
use Rattle.routes.specs.Run.Nows.{is_change}
use Rattle.routes.specs.Run.Steps.{turned_at}
use Rattle.routes.specs.Invariant.Ghosts.{Ghost, Row, still, heads, calm, ripe, limbo}
use Rattle.routes.specs.Invariant.Memories.{RowOk, Core}
use Rattle.routes.specs.Invariant.Readers.{Updates, Does}
use Rattle.routes.specs.Invariant.Registers.{holds, holds_in, announced, loaded, passed, passed_in}
use Rattle.routes.specs.Invariant.Writers.{PhaseFacts, Writer, hall_of}
use Rattle.routes.specs.Invariant.Inv.{Cpus, Inv, set_cpu}
use Rattle.routes.proofs.Late.View.{view-counted}
use Rattle.routes.proofs.Run.Steps.{now_own, now_other, turned_kind}
use Rattle.routes.proofs.Invariant.Aging.{phase_on}
use Rattle.routes.proofs.Invariant.Alike.{Alike, alike_hidden, saying_older}
use Rattle.routes.proofs.Invariant.Rely.{Leaves, leaves_same}
use Rattle.routes.proofs.Invariant.Steps.{lock_of, Turn, turn_on, steps_inv, holds_silent, busy_small}

-- Of a phase that holds the lock, what it does is a change.
updates_hold : (o : List ℕ) (j : Job) (s : Phase) (n : Now) → holds_in s ≡ true → is_change n ≡ true → Updates o j s n
unfolding Updates holds_in
updates_hold o j Refuse n h e = absurd (false≢true h)
updates_hold o j AtLock n h e = absurd (false≢true h)
updates_hold o j (Check s) n h e = e
updates_hold o j (Obtain s) n h e = e
updates_hold o j (Recycle s) n h e = e
updates_hold o j (Scan s) n h e = e
updates_hold o j (Build s) n h e = e
updates_hold o j (Publish s) n h e = e
updates_hold o j (Retire s) n h e = e
updates_hold o j (Reclaim s) n h e = e
updates_hold o j (Finish s) n h e = e

-- And the other way round.
hold_changes : (o : List ℕ) (j : Job) (s : Phase) (n : Now) → holds_in s ≡ true → Updates o j s n → is_change n ≡ true
unfolding Updates holds_in
hold_changes o j Refuse n h e = absurd (false≢true h)
hold_changes o j AtLock n h e = absurd (false≢true h)
hold_changes o j (Check s) n h e = e
hold_changes o j (Obtain s) n h e = e
hold_changes o j (Recycle s) n h e = e
hold_changes o j (Scan s) n h e = e
hold_changes o j (Build s) n h e = e
hold_changes o j (Publish s) n h e = e
hold_changes o j (Retire s) n h e = e
hold_changes o j (Reclaim s) n h e = e
hold_changes o j (Finish s) n h e = e

-- Who holds the lock has no trail, and a change under way.
does_hold : (v : ℕ → ℕ → ℕ) (work : Work) (o trail : List ℕ) (n : Now) → holds work ≡ true → Does v work o trail n → (trail ≡ []) × (is_change n ≡ true)
unfolding holds Does
does_hold v Idle o trail n h d = absurd (false≢true h)
does_hold v (Looking l) o trail n h d = absurd (false≢true h)
does_hold v (Updating j s) o trail n h d = (d.0, hold_changes o j s n h d.1)

module _ {m : Mem} {g : Ghost} {trail : ℕ → List ℕ} {s : State} {t : ℕ} {c : Cpus} {p : ℕ} (i : Inv m (lock_of p true) g trail s t c) where
  -- The holder's registers hold the lock.
  pub holder_holds : holds (c.work p) ≡ true
  holder_holds = i.holding p ∙ eq-eqb p p refl

  -- Nobody else's do.
  pub others_free : (q : ℕ) → (q ≡ p → ⊥) → holds (c.work q) ≡ false
  others_free q ne = let e = i.holding q in grind (arith, tests)

  -- The holder is a processor that there is.
  pub holder_small : p < m.cpus
  unfolding holds
  holder_small = busy_small i p (λ e. false≢true (sym (ap holds e) ∙ holder_holds))

  -- It has no trail, and a change under way.
  pub holder_does : (trail p ≡ []) × (is_change (s.now' p) ≡ true)
  holder_does = does_hold m.val (c.work p) (c.own p) (trail p) (s.now' p) holder_holds (i.readers p).does

  -- The facts of its phase.
  pub holder_facts : (j : Job) (ph : Phase) → c.work p ≡ Updating j ph → PhaseFacts (view p m) (hall_of m) g (c.own p) s.table (s.now' p) j ph
  unfolding Writer
  holder_facts j ph e = subst (λ w. Writer (view p m) (hall_of m) g (c.own p) s.table (s.now' p) w) e i.writer

  -- Its own words.
  pub holder_room : length (c.own p) ≡ 4096
  holder_room = i.room p holder_small

  -- What its scan has passed.
  pub holder_scanned : (j : Job) (ph : Phase) → c.work p ≡ Updating j ph → (q b : ℕ) → q < (passed_in m.cpus ph).many → 1 ≤ cnt b (trail q) → 1 ≤ limbo g b → (passed_in m.cpus ph).limit ≤ g.stamps b
  unfolding passed
  holder_scanned j ph e = subst (λ w. (q b : ℕ) → q < (passed m.cpus w).many → 1 ≤ cnt b (trail q) → 1 ≤ limbo g b → (passed m.cpus w).limit ≤ g.stamps b) e i.scanned

-- what has to be shown of a turn of the holder: s' is the state after its hidden step, if there is one, and before the turn is counted
pub record Holds (m : Mem) (g : Ghost) (trail : ℕ → List ℕ) (p : ℕ) (m' : Mem) (g' : Ghost) (s' : State) (t : ℕ) (j : Job) (ph : Phase) (own : List ℕ) : Type 0 where
  pub core : Core m' p true g' s'.table t
  pub leaves : (q : ℕ) → Leaves m g m' g' (trail q) q
  pub cpus : m'.cpus ≡ m.cpus
  pub holds' : holds_in ph ≡ true
  pub room : length own ≡ 4096
  pub facts : PhaseFacts (view p m') (hall_of m') g' own s'.table (s'.now' p) j ph
  pub scanned : (q b : ℕ) → q < (passed_in m.cpus ph).many → 1 ≤ cnt b (trail q) → 1 ≤ limbo g' b → (passed_in m.cpus ph).limit ≤ g'.stamps b

-- Any turn of the holder after which it still holds the lock.
pub hold_turn : {m : Mem} {g : Ghost} {trail : ℕ → List ℕ} {s : State} {t : ℕ} {c : Cpus} {p cpus blocks : ℕ} {es : List Event} {m' : Mem} {g' : Ghost} {s' : State} {t' : ℕ} {j : Job} {ph : Phase} {own : List ℕ} →
    Inv m (lock_of p true) g trail s t c → Alike p s s' → Run cpus blocks es s' → T (young (s'.now' p)) → Holds m g trail p m' g' s' t' j ph own →
    Turn m' t' (set_cpu p (Updating j ph) own c) cpus blocks (Turned p ∷ es) p s
unfolding holds announced loaded Does Writer passed
hold_turn {m} {g} {trail} {s} {t} {c} {p} {cpus} {blocks} {es} {m'} {g'} {s'} {t'} {j} {ph} {own} i a r y n = turn_on (alike_hidden a) r y (steps_inv i (record {
  core = n.core;
  leaves = n.leaves;
  nows = λ q ne. now_other p q _ s'.table s' ne ∙ a.nows q ne;
  leads = λ q. ap (λ f. f q) a.lead ∙ i.leads q;
  others = others_free i;
  mine = n.holds';
  cpus = n.cpus;
  small = holder_small i;
  silent = (holds_silent (c.work p) (holder_holds i)).0;
  unloaded = refl;
  does = ((holder_does i).0, updates_hold own j ph ((turned_at cpus p s').now' p) n.holds' ((turned_kind cpus p p s').change ∙ (a.kind.change ∙ (holder_does i).1)));
  room = n.room;
  writer = facts';
  scanned = n.scanned;
}))
  where
    facts' : PhaseFacts (view p m') (hall_of m') g' own s'.table ((turned_at cpus p s').now' p) j ph
    facts' = subst (λ z. PhaseFacts (view p m') (hall_of m') g' own s'.table z j ph) (sym (now_own p (older (must_wait cpus p s') (s'.now' p)) s'.table s'))
        (phase_on (view p m') (hall_of m') g' own s'.table (s'.now' p) (older (must_wait cpus p s') (s'.now' p)) j (saying_older (must_wait cpus p s') (s'.now' p)) ph n.facts)

-- A late row stays what it is if memory is asked.
row-counted : (r : Row) (m : Mem) (h : ℕ) (g : Ghost) (e : ℕ) → RowOk r m h g e → RowOk r (counted m) h g e
unfolding RowOk
row-counted still m h g e r = r
row-counted heads m h g e r = r
row-counted calm m h g e r = r
row-counted (ripe new retired rest table) m h g e r = record { late = r.late; repr = r.repr; good = r.good; settled = r.settled; balance = r.balance; unspent = r.unspent }

-- So does all that holds of the memory.
pub core_counted : {m : Mem} {h : ℕ} {locked : Bool} {g : Ghost} {rs : List Route} {t : ℕ} → Core m h locked g rs t → Core (counted m) h locked g rs t
core_counted {m} {h} {locked} {g} {rs} {t} o = record {
  sizes = record { someone = o.sizes.someone; cpus = o.sizes.cpus; blocks = o.sizes.blocks };
  others = o.others;
  row = rw (view-counted h m) (row-counted g.row m h g (view h m 0 2) o.row);
  writer = o.writer;
  root = o.root;
  repr = o.repr;
  good = o.good;
  blocks = o.blocks;
  inside = o.inside;
  sight = rw (view-counted h m) o.sight;
}

-- A turn of the holder that changes nothing but registers and own words, and asks the memory.
pub load_turn : {m : Mem} {g : Ghost} {trail : ℕ → List ℕ} {s : State} {t : ℕ} {c : Cpus} {p cpus blocks : ℕ} {es : List Event} {s' : State} (j : Job) (ph : Phase) (own : List ℕ) →
    Inv m (lock_of p true) g trail s t c → Alike p s s' → Run cpus blocks es s' → T (young (s'.now' p)) →
    holds_in ph ≡ true → length own ≡ 4096 → PhaseFacts (view p m) (hall_of m) g own s.table (s'.now' p) j ph →
    ((q b : ℕ) → q < (passed_in m.cpus ph).many → 1 ≤ cnt b (trail q) → 1 ≤ limbo g b → (passed_in m.cpus ph).limit ≤ g.stamps b) →
    Turn (counted m) t (set_cpu p (Updating j ph) own c) cpus blocks (Turned p ∷ es) p s
load_turn {m} {g} {trail} {s} {t} {c} {p} {s' = s'} j ph own i a r y h l f z = hold_turn i a r y (record {
  core = subst (λ rs. Core (counted m) p true g rs t) (sym a.table) (core_counted i.core);
  leaves = λ q. leaves_same g (trail q) q refl;
  cpus = refl;
  holds' = h;
  room = l;
  facts = rw (view-counted p m) (subst (λ rs. PhaseFacts (view p m) (hall_of m) g own rs (s'.now' p) j ph) (sym a.table) f);
  scanned = z;
})

-- The same where the memory is not asked.
pub pause_turn : {m : Mem} {g : Ghost} {trail : ℕ → List ℕ} {s : State} {t : ℕ} {c : Cpus} {p cpus blocks : ℕ} {es : List Event} {s' : State} (j : Job) (ph : Phase) (own : List ℕ) →
    Inv m (lock_of p true) g trail s t c → Alike p s s' → Run cpus blocks es s' → T (young (s'.now' p)) →
    holds_in ph ≡ true → length own ≡ 4096 → PhaseFacts (view p m) (hall_of m) g own s.table (s'.now' p) j ph →
    ((q b : ℕ) → q < (passed_in m.cpus ph).many → 1 ≤ cnt b (trail q) → 1 ≤ limbo g b → (passed_in m.cpus ph).limit ≤ g.stamps b) →
    Turn m t (set_cpu p (Updating j ph) own c) cpus blocks (Turned p ∷ es) p s
pause_turn {m} {g} {trail} {s} {t} {c} {p} {s' = s'} j ph own i a r y h l f z = hold_turn i a r y (record {
  core = subst (λ rs. Core m p true g rs t) (sym a.table) i.core;
  leaves = λ q. leaves_same g (trail q) q refl;
  cpus = refl;
  holds' = h;
  room = l;
  facts = subst (λ rs. PhaseFacts (view p m) (hall_of m) g own rs (s'.now' p) j ph) (sym a.table) f;
  scanned = z;
})
