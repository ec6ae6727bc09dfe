-- The turns of Check: a piece, ROOT, a slot or a route word is looked at.
use Rattle.std.proofs.Common.{◌≡◌, ℕ, Bool, true, false, T, List, [], ◌∷◌, sym, refl, ap, ◌∙◌, subst, arith}
use Rattle.routes.specs.declared.Answer.TheVariants.{No}
use Rattle.routes.specs.declared.Ask.{Ask}
use Rattle.routes.specs.declared.Ask.TheVariants.{Change}
use Rattle.routes.specs.declared.Answer.{Answer}
use Rattle.routes.specs.declared.Piece.{Piece}
use Rattle.routes.specs.declared.refusal.Refusal.{Refusal}
use Rattle.routes.specs.declared.update.job.Job.{Job}
use Rattle.routes.specs.declared.update.check.Check.{Check}
use Rattle.routes.specs.declared.update.check.Check.TheVariants.{Piece as AtPiece, Root, Slot, Route as AtRoute, Reject}
use Rattle.routes.specs.declared.update.obtain.Obtain.TheVariants.{Get}
use Rattle.routes.specs.declared.update.Phase.TheVariants.{Check as InCheck, Obtain as InObtain}
use Rattle.routes.specs.declared.work.Work.TheVariants.{Update as Updating}
use Rattle.routes.specs.Memory.{Mem, counted, Arrives, rest}
use Rattle.routes.specs.Refusals.{number_of}
use Rattle.routes.specs.Routes.{Route, Event, Turned, Now, Under, Over, State, Run, young}
use Rattle.routes.specs.Run.Steps.{settled_at}
use Rattle.routes.specs.Machine.Acts.{Did}
use Rattle.routes.specs.Machine.Checks.{check_act, check_after}
use Rattle.routes.specs.Machine.Cpus.{work_of_update}
use Rattle.std.specs.ControlFlow.{break_value}
use Rattle.routes.specs.Invariant.Ghosts.{Ghost, heads}
use Rattle.routes.specs.Invariant.Memories.{Core}
use Rattle.routes.specs.Invariant.Registers.{holds_in, passed_in}
use Rattle.routes.specs.Invariant.Holders.{Resting}
use Rattle.routes.specs.Invariant.Gathering.{Gathers, ObtainFacts}
use Rattle.routes.specs.Invariant.Checking.{CheckFacts}
use Rattle.routes.specs.Invariant.Writers.{PhaseFacts}
use Rattle.routes.specs.Invariant.Inv.{Cpus, Inv, set_cpu}
use Rattle.routes.specs.Invariant.Known.{seen_of}
use Rattle.routes.proofs.Late.Sees.{sees_none}
use Rattle.routes.proofs.Run.Make.{settle_no}
use Rattle.routes.proofs.Run.Steps.{now_own}
use Rattle.routes.proofs.Invariant.Alike.{alike_same, alike_settled}
use Rattle.routes.proofs.Invariant.Rely.{leaves_same}
use Rattle.routes.proofs.Invariant.Steps.{lock_of, Turn}
use Rattle.routes.proofs.Invariant.Holding.{hold_turn, core_counted, holder_facts, holder_room}
use Rattle.routes.proofs.Invariant.Kinds.{with_row, core_row, heads_none, still_none, leaves_row}
use Rattle.routes.proofs.Invariant.Arriving.{turn_arrives}
use Rattle.routes.proofs.Invariant.Unlocks.{reject_parts, unlock_turn}
use Rattle.routes.proofs.Invariant.CheckNext.{Goes, onward, obtains, rejects, Refused, Loads, check_next}
use Rattle.routes.specs.Machine.Nexts.{UpdateNext}

-- memory that was asked, or was not
abbrev asked : Bool → Mem → Mem
asked true m = counted m
asked false m = m

-- All that holds of the memory still does.
core_asked : {m : Mem} {h : ℕ} {locked : Bool} {g : Ghost} {rs : List Route} {t : ℕ} (b : Bool) → Core m h locked g rs t → Core (asked b m) h locked g rs t
core_asked true o = core_counted o
core_asked false o = o

-- Words are the same.
val_asked : (b : Bool) (m : Mem) → (asked b m).val ≡ m.val
val_asked true m = refl
val_asked false m = refl

-- So are late stores.
late_asked : (b : Bool) (m : Mem) → (asked b m).late ≡ m.late
late_asked true m = refl
late_asked false m = refl

-- So is the number of processors.
cpus_asked : (b : Bool) (m : Mem) → (asked b m).cpus ≡ m.cpus
cpus_asked true m = refl
cpus_asked false m = refl

-- What takes effect is as young as before.
pub young_settled : (p : ℕ) (k : Ask) (ps : List Piece) (a : Answer) (age : ℕ) (t : List Route) (s : State) → s.now' p ≡ Under k ps age → T (young (s.now' p)) → T (young ((settled_at p k a age t s).now' p))
unfolding young
young_settled p k ps a age t s e y = rw (now_own p (Over k a age) t s) (rw e at y)

module _ {m : Mem} {g : Ghost} {trail : ℕ → List ℕ} {s : State} {t : ℕ} {c : Cpus} {p cpus blocks : ℕ} {es : List Event}
    (i : Inv m (lock_of p true) g trail s t c) (r : Run cpus blocks es s) (y : T (young (s.now' p))) where
  -- On in Check.
  onward_turn : (b : Bool) (l : Job) (k : Check) → CheckFacts g (c.own p) s.table (s.now' p) l k → Turn (asked b m) t (set_cpu p (Updating l (InCheck k)) (c.own p) c) cpus blocks (Turned p ∷ es) p s
  unfolding holds_in passed_in PhaseFacts
  onward_turn b l k f = hold_turn i (alike_same p s) r y (record {
    core = core_asked b i.core;
    leaves = λ q. leaves_same g (trail q) q (val_asked b m);
    cpus = cpus_asked b m;
    holds' = refl;
    room = holder_room i;
    facts = f;
    scanned = λ q a n. absurd (omega arith);
  })

  -- On to Obtain, where LIMBO_HEAD and LIMBO_TAIL may be late.
  obtains_turn : (b : Bool) (l : Job) → m.late p ≡ [] → Gathers (with_row heads g) (c.own p) s.table (s.now' p) l → Turn (asked b m) t (set_cpu p (Updating l (InObtain Get)) (c.own p) c) cpus blocks (Turned p ∷ es) p s
  unfolding holds_in passed_in PhaseFacts ObtainFacts
  obtains_turn b l none f = hold_turn i (alike_same p s) r y (record {
    core = core_row heads (heads_none (asked b m) p (with_row heads g) _ (ap (λ z. z p) (late_asked b m) ∙ none)) (core_asked b i.core);
    leaves = λ q. leaves_row g heads (trail q) q (val_asked b m);
    cpus = cpus_asked b m;
    holds' = refl;
    room = holder_room i;
    facts = f;
    scanned = λ q a n. absurd (omega arith);
  })

  -- On to Reject: here the change takes effect, and is turned away.
  rejects_turn : (b : Bool) (j : Job) (why : Refusal) → Refused g s.table (s.now' p) (number_of why) → Turn (asked b m) t (set_cpu p (Updating j (InCheck (Reject why))) (c.own p) c) cpus blocks (Turned p ∷ es) p s
  unfolding holds_in passed_in PhaseFacts CheckFacts
  rejects_turn b j why f =
      let e = f.awaits.2 in
      hold_turn i (alike_settled p (Change f.awaits.0) f.ps (No (number_of why)) f.awaits.1 s e) (settle_no r p f.awaits.0 f.ps f.awaits.1 (number_of why) e f.wrong)
      (young_settled p (Change f.awaits.0) f.ps (No (number_of why)) f.awaits.1 s.table s e y) (record {
        core = core_asked b i.core;
        leaves = λ q. leaves_same g (trail q) q (val_asked b m);
        cpus = cpus_asked b m;
        holds' = refl;
        room = holder_room i;
        facts = (f.resting, (f.awaits.0, f.awaits.1, now_own p _ s.table s));
        scanned = λ q a n. absurd (omega arith);
      })

  -- What a turn of Check comes to is one of these.
  goes_turn : (b : Bool) (j : Job) (u : UpdateNext) → m.late p ≡ [] → Goes g (c.own p) s.table (s.now' p) j u →
      Turn (asked b m) t (set_cpu p (work_of_update u) (c.own p) c) cpus blocks (seen_of p (break_value u) es) p s
  goes_turn b j u none (onward l k e f) = rw e (onward_turn b l k f)
  goes_turn b j u none (obtains l e f) = rw e (obtains_turn b l none f)
  goes_turn b j u none (rejects why e f) = rw e (rejects_turn b j why f)

  -- A state that loads, or only looks at its own words, and what arrives behind it.
  looks_turn : (b : Bool) (j : Job) (k : Check) (x : ℕ) {n : Mem} → CheckFacts g (c.own p) s.table (s.now' p) j k → m.late p ≡ [] → Loads m.val (c.own p) k x → Arrives (asked b m) n →
      Turn n t (set_cpu p (work_of_update (check_after j k (c.own p) x)) (c.own p) c) cpus blocks (seen_of p (break_value (check_after j k (c.own p) x)) es) p s
  looks_turn b j k x f none l a = turn_arrives a (goes_turn b j (check_after j k (c.own p) x) none
      (check_next m.val g (c.own p) s.table (s.now' p) j k x i.core.root i.core.repr i.core.good f l))

-- In all of Check nothing is late.
check_rests : (g : Ghost) (o : List ℕ) (rs : List Route) (n : Now) (j : Job) (k : Check) → CheckFacts g o rs n j k → Resting g
unfolding CheckFacts
check_rests g o rs n j (AtPiece k) f = f.resting
check_rests g o rs n j (Root k) f = f.0.resting
check_rests g o rs n j (Slot k d b) f = f.0.resting
check_rests g o rs n j (AtRoute k b) f = f.0.resting
check_rests g o rs n j (Reject why) f = f.0

-- A turn of Check.
pub check_turn : {m : Mem} {g : Ghost} {trail : ℕ → List ℕ} {s : State} {t : ℕ} {c : Cpus} {p cpus blocks : ℕ} {es : List Event} (j : Job) (k : Check) (x : ℕ) {n : Mem} →
    Inv m (lock_of p true) g trail s t c → Run cpus blocks es s → T (young (s.now' p)) → c.work p ≡ Updating j (InCheck k) → Did p (check_act p k (c.own p)) m x n →
    Turn n t (set_cpu p (work_of_update (check_after j k (c.own p) x)) (c.own p) c) cpus blocks (seen_of p (break_value (check_after j k (c.own p) x)) es) p s
unfolding PhaseFacts Loads
check_turn {m} {g} {trail} {s} {t} {c} {p} {cpus} {blocks} {es} j k x {n} i r y e d = go k e d (holder_facts i j (InCheck k) e)
  where
    none : (k : Check) → CheckFacts g (c.own p) s.table (s.now' p) j k → m.late p ≡ []
    none k f = still_none m p g _ (check_rests g (c.own p) s.table (s.now' p) j k f).has.row i.core.row

    go : (k : Check) → c.work p ≡ Updating j (InCheck k) → Did p (check_act p k (c.own p)) m x n → CheckFacts g (c.own p) s.table (s.now' p) j k →
        Turn n t (set_cpu p (work_of_update (check_after j k (c.own p) x)) (c.own p) c) cpus blocks (seen_of p (break_value (check_after j k (c.own p) x)) es) p s
    go (AtPiece k) e d f = looks_turn i r y false j (AtPiece k) x f (none (AtPiece k) f) tt (subst (Arrives m) (sym d.1) (rest m))
    go (Root k) e d f = looks_turn i r y true j (Root k) x f (none (Root k) f) (d.0 ∙ sees_none p 0 1 m (none (Root k) f)) d.1
    go (Slot k l b) e d f = looks_turn i r y true j (Slot k l b) x f (none (Slot k l b) f) (d.0 ∙ sees_none p b _ m (none (Slot k l b) f)) d.1
    go (AtRoute k b) e d f = looks_turn i r y true j (AtRoute k b) x f (none (AtRoute k b) f) (d.0 ∙ sees_none p b _ m (none (AtRoute k b) f)) d.1
    go (Reject why) e d f = turn_arrives d.1 (unlock_turn j (InCheck (Reject why)) (No (number_of why)) (reject_parts j why) i r y e)
