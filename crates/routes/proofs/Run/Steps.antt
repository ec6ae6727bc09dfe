-- What each step of a run does to what is under way, to ages and to who is waited for.
-- What is not said here computes: only what takes effect changes the table; only who begins to lead, or tells, changes who leads.
use Rattle.std.proofs.Common.{◌≡◌, ℕ, ◌+◌, true, false, cond, not, ◌&&◌, eqb, ltb, List, refl, ap, ◌∙◌, inl, inr, arith}
use Rattle.std.proofs.lemmas.Bool.Decides.{nat_tests, eqb_tells}
use Rattle.std.proofs.lemmas.Bool.{cases_Bool, cond-true, cond-false, and_from, and_right, not_from_true, not_from_false, eq-eqb}
use Rattle.routes.specs.declared.Ask.{Ask}
use Rattle.routes.specs.declared.Answer.{Answer}
use Rattle.routes.specs.declared.Piece.{Piece}
use Rattle.routes.specs.Routes.{Route, Now, Quiet, Under, Over, State, set, older, ages, must_wait, asking, is_question}
use Rattle.routes.specs.Run.Nows.{is_change, age_of, counts, in_list}
use Rattle.routes.specs.Run.Steps.{asked_at, settled_at, turned_at, told_at}
use Rattle.routes.proofs.Basics.Places.{set_at_hit, set_at_miss}
use Rattle.routes.proofs.Run.Nows.{SameKind, change_asks, kind_same, kind_settled, kind_older, older_age}
use Rattle.routes.proofs.Run.Waits.{in_asking, in_gone}

-- Where a step is made, what is under way is the new.
pub now_own : (p : ℕ) (n : Now) (t : List Route) (s : State) → (set p n t s).now' p ≡ n
now_own p n t s = set_at_hit p p n s.now' refl

-- Elsewhere it is as before.
pub now_other : (p q : ℕ) (n : Now) (t : List Route) (s : State) → (q ≡ p → ⊥) → (set p n t s).now' q ≡ s.now' q
now_other p q n t s ne = set_at_miss p q n s.now' ne

-- A turn makes older what is under way there.
pub turned_now : (cpus p q : ℕ) (s : State) → (turned_at cpus p s).now' q ≡ cond (eqb q p) (older (must_wait cpus p s) (s.now' p)) (s.now' q)
turned_now cpus p q s = refl

-- Of what has not taken effect it changes the age alone.
pub turned_under : (cpus p : ℕ) (s : State) (k : Ask) (ps : List Piece) (g : ℕ) → s.now' p ≡ Under k ps g → (turned_at cpus p s).now' p ≡ Under k ps (cond (ages k (must_wait cpus p s)) (g + 1) g)
unfolding older
turned_under cpus p s k ps g e = now_own p (older (must_wait cpus p s) (s.now' p)) s.table s ∙ ap (older (must_wait cpus p s)) e

-- The same of what has.
pub turned_over : (cpus p : ℕ) (s : State) (k : Ask) (a : Answer) (g : ℕ) → s.now' p ≡ Over k a g → (turned_at cpus p s).now' p ≡ Over k a (cond (ages k (must_wait cpus p s)) (g + 1) g)
unfolding older
turned_over cpus p s k a g e = now_own p (older (must_wait cpus p s) (s.now' p)) s.table s ∙ ap (older (must_wait cpus p s)) e

-- What was told is quiet.
pub told_now : (p q : ℕ) (s : State) → (told_at p s).now' q ≡ cond (eqb q p) Quiet (s.now' q)
told_now p q s = refl

-- Who told it does not lead.
pub told_lead : (p q : ℕ) (s : State) → (told_at p s).lead q ≡ cond (eqb q p) false (s.lead q)
told_lead p q s = refl

-- If a step leaves what is under way at p of its kind, it leaves all of their kinds.
pub set_kind : (p q : ℕ) (n : Now) (t : List Route) (s : State) → SameKind (s.now' p) n → SameKind (s.now' q) ((set p n t s).now' q)
set_kind p q n t s k = elim (eqb_tells q p) [
  | inl e ↦ rw (e.0, e.1) k
  | inr e ↦ rw e.0 (kind_same (s.now' q))
]

-- A turn leaves all of their kinds.
pub turned_kind : (cpus p q : ℕ) (s : State) → SameKind (s.now' q) ((turned_at cpus p s).now' q)
turned_kind cpus p q s = set_kind p q (older (must_wait cpus p s) (s.now' p)) s.table s (kind_older (must_wait cpus p s) (s.now' p))

-- So does what takes effect.
pub settled_kind : (p q : ℕ) (k : Ask) (ps : List Piece) (a : Answer) (g : ℕ) (t : List Route) (s : State) → s.now' p ≡ Under k ps g → SameKind (s.now' q) ((settled_at p k a g t s).now' q)
settled_kind p q k ps a g t s e = set_kind p q (Over k a g) t s (rw e (kind_settled k ps g a))

-- A turn that counts makes what is under way there older by one.
pub turned_age : (cpus p q : ℕ) (s : State) → age_of ((turned_at cpus p s).now' q) ≡ age_of (s.now' q) + cond (eqb q p && counts cpus p s) 1 0
turned_age cpus p q s = elim (eqb_tells q p) [
  | inl e ↦ rw (e.0, e.1) (older_age (must_wait cpus p s) (s.now' p))
  | inr e ↦ rw e.0 (omega arith)
]

-- A question gets older at each turn.
pub question_ages : (cpus p : ℕ) (s : State) → is_question (s.now' p) ≡ true → age_of ((turned_at cpus p s).now' p) ≡ age_of (s.now' p) + 1
question_ages cpus p s e = let a = turned_age cpus p p s in grind (arith, nat_tests)

-- A change gets older if it need not wait.
pub change_ages : (cpus p : ℕ) (s : State) → is_change (s.now' p) ≡ true → age_of ((turned_at cpus p s).now' p) ≡ age_of (s.now' p) + cond (must_wait cpus p s) 0 1
change_ages cpus p s e = let a = turned_age cpus p p s in let n = change_asks (s.now' p) e in grind (arith, nat_tests)

-- What takes effect gets no older by it.
pub settled_age : (p q : ℕ) (k : Ask) (ps : List Piece) (a : Answer) (g : ℕ) (t : List Route) (s : State) → s.now' p ≡ Under k ps g → age_of ((settled_at p k a g t s).now' q) ≡ age_of (s.now' q)
unfolding age_of
settled_age p q k ps a g t s e = elim (eqb_tells q p) [
  | inl i ↦ rw (i.0, i.1, e) refl
  | inr i ↦ rw i.0 refl
]

-- What is asked begins at 0.
pub asked_age : (p q : ℕ) (k : Ask) (ps : List Piece) (s : State) → age_of ((asked_at p k ps s).now' q) ≡ cond (eqb q p) 0 (age_of (s.now' q))
unfolding age_of
asked_age p q k ps s = elim (eqb_tells q p) [ inl e ↦ rw e.0 refl | inr e ↦ rw e.0 refl ]

-- What is told is under way no more.
pub told_age : (p q : ℕ) (s : State) → age_of ((told_at p s).now' q) ≡ cond (eqb q p) 0 (age_of (s.now' q))
unfolding age_of
told_age p q s = elim (eqb_tells q p) [ inl e ↦ rw e.0 refl | inr e ↦ rw e.0 refl ]

-- A turn in which p need not wait starts a new wait of p's, for just the questions under way.
pub turned_waits : (cpus p q r : ℕ) (s : State) →
    in_list r ((turned_at cpus p s).waits q) ≡ cond (eqb q p && not (must_wait cpus p s)) (ltb r cpus && is_question (s.now' r)) (in_list r (s.waits q))
turned_waits cpus p q r s = elim (cases_Bool (eqb q p && not (must_wait cpus p s))) [
  | inl e ↦ rw e (in_asking r cpus s)
  | inr e ↦ rw e refl
]

-- That wait is the list of those who ask.
pub turned_asking : (cpus p : ℕ) (s : State) → must_wait cpus p s ≡ false → (turned_at cpus p s).waits p ≡ asking cpus s
turned_asking cpus p s e = cond-true _ _ _ (and_from _ _ (eq-eqb p p refl) (not_from_false _ e))

-- A turn in which p must wait changes nobody's wait.
pub turned_stays : (cpus p q : ℕ) (s : State) → must_wait cpus p s ≡ true → (turned_at cpus p s).waits q ≡ s.waits q
turned_stays cpus p q s e = cond-false _ _ _ (and_right _ _ (not_from_true _ e))

-- Who has told its answer is waited for by nobody; for others all wait as before.
pub told_waits : (p q r : ℕ) (s : State) → in_list r ((told_at p s).waits q) ≡ (not (eqb r p) && in_list r (s.waits q))
told_waits p q r s = in_gone r p (s.waits q)
