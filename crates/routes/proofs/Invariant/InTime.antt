-- Nothing gets too old: what is left to anything under way stays enough, whatever is done.
use Rattle.std.proofs.Common.{◌≡◌, ℕ, ◌+◌, ◌<◌, ◌≤◌, Bool, true, false, cond, ◌&&◌, ◌||◌, eqb, ltb, List, [], refl, ap, ◌∙◌, inl, inr, arith}
use Rattle.std.proofs.lemmas.Bool.Decides.{nat_tests as tests, eqb_tells}
use Rattle.std.proofs.lemmas.Bool.{cases_Bool, cases_lt, eq-eqb, lt-ltb}
use Rattle.routes.specs.declared.Ask.{Ask}
use Rattle.routes.specs.declared.Ask.TheVariants.{Find, Change}
use Rattle.routes.specs.declared.Answer.{Answer}
use Rattle.routes.specs.declared.Piece.{Piece}
use Rattle.routes.specs.declared.update.job.Job.{Job}
use Rattle.routes.specs.declared.update.scan.Scan.TheVariants.{ForNode}
use Rattle.routes.specs.declared.update.Phase.TheVariants.{Scan}
use Rattle.routes.specs.declared.work.Work.{Work}
use Rattle.routes.specs.declared.work.Work.TheVariants.{Idle, Update as Updating}
use Rattle.routes.specs.Memory.{set_at}
use Rattle.routes.specs.Routes.{Route, Quiet, Under, State, fresh, led, limit, is_question, must_wait, young}
use Rattle.routes.specs.Machine.Begins.{begin_work}
use Rattle.routes.specs.Machine.Cpus.{WorkOk, work_after}
use Rattle.routes.specs.Run.Nows.{is_change, age_of, limit_of, counts}
use Rattle.routes.specs.Run.Steps.{asked_at, settled_at, turned_at, told_at}
use Rattle.routes.specs.Invariant.Ages.{from_get, pot_update, pot, in_way, unawaited_in, Aged, stays, SameWork, AgeFacts}
use Rattle.routes.specs.Invariant.Registers.{loaded, loaded_in}
use Rattle.routes.proofs.Basics.Places.{set_at_hit, set_at_miss, set_at_same}
use Rattle.routes.proofs.Run.Nows.{young_is}
use Rattle.routes.proofs.Run.Steps.{turned_age, turned_kind, turned_asking, turned_stays, change_ages, settled_age, settled_kind}
use Rattle.routes.proofs.Run.Waits.{waits_none}
use Rattle.routes.proofs.Invariant.Falls.{pot_falls}
use Rattle.routes.proofs.Invariant.Standing.{Stay, rests, fails, stands, stay_is, stay_same, pot_some, loads_asks, way_loads, way_after, stand_sees, stand_counts, other_left, told_left}

-- At the start nothing is under way.
pub aged_start : (cpus : ℕ) → Aged cpus fresh (λ q. Idle)
unfolding age_of limit_of pot
aged_start cpus q = omega arith

-- What is under way has a turn that counts to come.
pub aged_young : (cpus p : ℕ) (s : State) (work : ℕ → Work) (o : List ℕ) → 1 ≤ cpus → WorkOk (work p) o → (work p ≡ Idle → ⊥) → Aged cpus s work → young (s.now' p) ≡ true
aged_young cpus p s work o some ok busy aged =
    let left = pot_some cpus (unawaited_in work (s.waits p)) (work p) o some ok busy in
    let here = aged p in
    young_is (s.now' p) ∙ lt-ltb _ _ (omega arith)

-- Where ages, limits and waits stay, what is left stays: so it is when stores arrive.
pub aged_on : (cpus : ℕ) (s s' : State) (work : ℕ → Work) → ((q : ℕ) → age_of (s'.now' q) ≡ age_of (s.now' q)) → ((q : ℕ) → limit_of (s'.now' q) ≡ limit_of (s.now' q)) → s'.waits ≡ s.waits → Aged cpus s work → Aged cpus s' work
aged_on cpus s s' work ages limits waits aged q = omega (arith, aged q, ages q, limits q, ap (λ f. pot cpus (unawaited_in work (f q)) (work q)) waits)

-- What takes effect gets no older by it.
pub aged_settled : (cpus p : ℕ) (s : State) (work : ℕ → Work) (k : Ask) (ps : List Piece) (a : Answer) (g : ℕ) (t : List Route) → s.now' p ≡ Under k ps g → Aged cpus s work → Aged cpus (settled_at p k a g t s) work
aged_settled cpus p s work k ps a g t e = aged_on cpus s (settled_at p k a g t s) work (λ q. settled_age p q k ps a g t s e) (λ q. (settled_kind p q k ps a g t s e).limits) refl

-- So is who begins to lead.
pub aged_led : (cpus p : ℕ) (s : State) (work : ℕ → Work) → Aged cpus s work → Aged cpus (led p s) work
aged_led cpus p s work aged = aged

-- Who has told its answer has nothing left to do, and leaves no more to others.
pub aged_told : (cpus p : ℕ) (s : State) (work : ℕ → Work) → work p ≡ Idle → Aged cpus s work → Aged cpus (told_at p s) work
unfolding age_of limit_of pot
aged_told cpus p s work idle aged q = elim (eqb_tells q p) [
  | inl e ↦ (let none : work q ≡ Idle = ap work e.1 ∙ idle in rw (e.0, none) (omega arith))
  | inr e ↦ rw e.0 (omega (arith, aged q, told_left cpus p work (s.waits q) (work q) idle))
]

-- Who begins has loaded nothing.
begin_loads : (k : Ask) → loaded (begin_work k) ≡ 0
unfolding loaded loaded_in
begin_loads (Find a) = refl
begin_loads (Change n) = elim (cases_Bool (eqb n 0 || ltb 8 n)) [ inl e ↦ rw e refl | inr e ↦ rw e refl ]

-- It begins in time.
begin_left : (cpus : ℕ) (u : ℕ → ℕ → Bool) (k : Ask) → cpus ≤ 16 → pot cpus u (begin_work k) ≤ limit k
unfolding pot pot_update from_get limit
begin_left cpus u (Find a) few = omega arith
begin_left cpus u (Change n) few = elim (cases_Bool (eqb n 0 || ltb 8 n)) [ inl e ↦ rw e (omega arith) | inr e ↦ rw e (omega arith) ]

-- What is asked has all its turns before it.
pub aged_asked : (cpus p : ℕ) (s : State) (work : ℕ → Work) (k : Ask) (ps : List Piece) → cpus ≤ 16 → Aged cpus s work → Aged cpus (asked_at p k ps s) (set_at p (begin_work k) work)
unfolding age_of limit_of in_way
aged_asked cpus p s work k ps few aged q = elim (eqb_tells q p) [
  | inl e ↦ rw e.0 (omega (arith, begin_left cpus (unawaited_in (set_at p (begin_work k) work) (s.waits q)) k few))
  | inr e ↦ rw e.0 (omega (arith, aged q, other_left cpus p (begin_work k) work (s.waits q) (work q) (λ r b stamp j i t. (let none = begin_loads k in grind (arith, tests)))))
]

module _ (cpus p : ℕ) (s : State) (work : ℕ → Work) (epoch x : ℕ) (f : AgeFacts cpus p s work epoch x) (aged : Aged cpus s work) where
  -- what is left to p after its turn, with the registers as they were, is enough
  Kept : Type 0
  Kept = age_of ((turned_at cpus p s).now' p) + pot cpus (unawaited_in work ((turned_at cpus p s).waits p)) (work p) ≤ limit_of ((turned_at cpus p s).now' p)

  -- A change that must wait gets no older.
  waits_kept : is_change (s.now' p) ≡ true → must_wait cpus p s ≡ true → Kept
  unfolding Kept
  waits_kept change wait =
      let age : age_of ((turned_at cpus p s).now' p) ≡ age_of (s.now' p) + 0 = change_ages cpus p s change ∙ (rw wait refl) in
      let same = ap (λ ws. pot cpus (unawaited_in work ws) (work p)) (turned_stays cpus p p s wait) in
      omega (arith, aged p, (turned_kind cpus p p s).limits)

  -- A scan that stands waits from now on for who is in its way, or waits already.
  stands_kept : (r b stamp : ℕ) (j : Job) → work p ≡ Updating j (Scan (ForNode r b stamp)) → in_way stamp (work r) ≡ true → must_wait cpus p s ≡ false → Kept
  unfolding Kept pot pot_update SameWork loaded
  stands_kept r b stamp j here way free =
      let change : is_change (s.now' p) ≡ true = rw here at (f.kinds p) in
      let asks = loads_asks (work r) (s.now' r) (f.kinds r) (way_loads stamp (work r) way) in
      let small : r < cpus = elim (cases_lt r cpus) [ inl l ↦ l | inr l ↦ absurd (let none : loaded (work r) ≡ 0 = rw (f.outside r l) refl in omega (arith, way_loads stamp (work r) way)) ] in
      let age : age_of ((turned_at cpus p s).now' p) ≡ age_of (s.now' p) + 1 = change_ages cpus p s change ∙ (rw free refl) in
      let before = ap (λ ws. pot cpus (unawaited_in work ws) (work p)) (waits_none cpus p s free) ∙ ap (pot cpus (unawaited_in work [])) here in
      let after = ap (λ ws. pot cpus (unawaited_in work ws) (work p)) (turned_asking cpus p s free) ∙ ap (pot cpus (unawaited_in work _)) here in
      omega (arith, aged p, (turned_kind cpus p p s).limits, stand_counts cpus work s j r b stamp small way asks)

  -- Where a turn leaves the registers as they are, it does not count, or a scan stands.
  stays_kept : Stay (work p) x → Kept
  unfolding Kept pot SameWork is_question is_change
  stays_kept (rests e) =
      let quiet : s.now' p ≡ Quiet = rw e at (f.kinds p) in
      let none : counts cpus p s ≡ false = rw quiet refl in
      let age : age_of ((turned_at cpus p s).now' p) ≡ age_of (s.now' p) + 0 = turned_age cpus p p s ∙ (rw (none, eq-eqb p p refl) refl) in
      let idle : pot cpus (unawaited_in work ((turned_at cpus p s).waits p)) (work p) ≡ 0 = ap (pot cpus _) e in
      omega (arith, aged p, (turned_kind cpus p p s).limits)
  stays_kept (fails j e n) = waits_kept (rw e at (f.kinds p)) (f.fails j e n)
  stays_kept (stands r b stamp j e t) = elim (cases_Bool (must_wait cpus p s)) [
    | inl wait ↦ waits_kept (rw e at (f.kinds p)) wait
    | inr free ↦ stands_kept r b stamp j e (stand_sees stamp (work r) (rw (f.sees r b stamp j e) at t)) free
  ]

  -- What is left to p after its turn is enough.
  own_kept : (o : List ℕ) → 1 ≤ cpus → WorkOk (work p) o →
      age_of ((turned_at cpus p s).now' p) + pot cpus (unawaited_in (set_at p (work_after cpus (work p) o x) work) ((turned_at cpus p s).waits p)) (work_after cpus (work p) o x) ≤ limit_of ((turned_at cpus p s).now' p)
  unfolding Kept
  own_kept o some ok = elim (cases_Bool (stays (work p) x)) [
    | inl e ↦ (let stay = stay_is (work p) x e in let same = stay_same cpus (work p) o x stay in
        rw same (rw (set_at_same p (work p) work refl) (stays_kept stay)))
    | inr e ↦ (let older = turned_age cpus p p s in
        let one : cond (eqb p p && counts cpus p s) 1 0 ≤ 1 = grind (arith, tests) in
        omega (arith, aged p, (turned_kind cpus p p s).limits, pot_falls cpus (unawaited_in (set_at p (work_after cpus (work p) o x) work) ((turned_at cpus p s).waits p)) (unawaited_in work (s.waits p)) (work p) o x some ok e))
  ]

  -- What is left to another is not more than it was.
  other_kept : (o : List ℕ) (q : ℕ) → (q ≡ p → ⊥) →
      age_of ((turned_at cpus p s).now' q) + pot cpus (unawaited_in (set_at p (work_after cpus (work p) o x) work) ((turned_at cpus p s).waits q)) (work q) ≤ limit_of ((turned_at cpus p s).now' q)
  other_kept o q ne = elim (eqb_tells q p) [
    | inl e ↦ absurd (ne e.1)
    | inr e ↦ rw e.0 (omega (
      arith,
      aged q,
      other_left cpus p (work_after cpus (work p) o x) work (s.waits q) (work q)
          (λ r b stamp j i. way_after cpus stamp epoch (work p) o x (f.past q r b stamp j i) f.loads),
    ))
  ]

  -- After a turn of p, what is left to anything under way is enough.
  pub aged_turn : (o : List ℕ) → 1 ≤ cpus → WorkOk (work p) o → Aged cpus (turned_at cpus p s) (set_at p (work_after cpus (work p) o x) work)
  aged_turn o some ok q = elim (eqb_tells q p) [
    | inl e ↦ (let own = own_kept o some ok in rw e.1 (rw (set_at_hit p p (work_after cpus (work p) o x) work refl) own))
    | inr e ↦ (let other = other_kept o q e.1 in rw (set_at_miss p q (work_after cpus (work p) o x) work e.1) other)
  ]
