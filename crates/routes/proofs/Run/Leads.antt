-- Who leads, and who must wait for it.
use Rattle.std.proofs.Common.{◌≡◌, ℕ, zero, suc, ◌<◌, Bool, true, false, not, ◌&&◌, ◌||◌, eqb, sym, refl, ap, ◌∙◌, inl, inr, arith}
use Rattle.std.proofs.lemmas.Bool.Decides.{nat_tests, eqb_tells}
use Rattle.std.proofs.lemmas.Bool.{or_right}
use Rattle.routes.specs.Routes.{State, leader, none, must_wait, led}
use Rattle.routes.specs.Run.Nows.{OneLeader}
use Rattle.routes.specs.Run.Steps.{told_at}

-- Where nobody else leads, there is no other leader.
pub no_leader : (n p : ℕ) (s : State) → ((q : ℕ) → (q ≡ p → ⊥) → s.lead q ≡ false) → leader n p s ≡ false
unfolding leader
no_leader zero p s h = refl
no_leader (suc n) p s h = let ih = no_leader n p s h in let here = h n in grind (arith, nat_tests)

-- Where one leads who is not p, there is.
pub some_leader : (n p q : ℕ) (s : State) → q < n → (q ≡ p → ⊥) → s.lead q ≡ true → leader n p s ≡ true
unfolding leader
some_leader zero p q s l ne e = absurd (omega arith)
some_leader (suc n) p q s l ne e = elim (eqb_tells q n) [
  | inl i ↦ (let here : s.lead n ≡ true = ap s.lead (sym i.1) ∙ e in grind (arith, nat_tests))
  | inr i ↦ rw (some_leader n p q s (omega arith) ne e) refl
]

-- Where only `who` leads, or nobody does, others have a leader and `who` has none.
pub leader_is : (n p : ℕ) (locked : Bool) (who : ℕ) (s : State) → OneLeader locked who s → (locked ≡ true → who < n) → leader n p s ≡ (locked && not (eqb p who))
leader_is n p false who s one small = no_leader n p s (λ q ne. one q)
leader_is n p true who s one small = elim (eqb_tells p who) [
  | inl i ↦ rw i.0 (no_leader n p s (λ q ne. one q ∙ (grind (arith, nat_tests))))
  | inr i ↦ rw i.0 (some_leader n p who s (small refl) (λ e. i.1 (sym e)) (one who ∙ (grind (arith, nat_tests))))
]

-- So p must wait if it waits for a question, or if another leads.
pub must_wait_is : (n p : ℕ) (locked : Bool) (who : ℕ) (s : State) → OneLeader locked who s → (locked ≡ true → who < n) → must_wait n p s ≡ (not (none (s.waits p)) || (locked && not (eqb p who)))
must_wait_is n p locked who s one small = rw (leader_is n p locked who s one small) refl

-- All but the leader must wait.
pub leader_waits : (n p q : ℕ) (s : State) → q < n → (q ≡ p → ⊥) → s.lead q ≡ true → must_wait n p s ≡ true
leader_waits n p q s l ne e = or_right _ _ (some_leader n p q s l ne e)

-- Where nobody leads, p may become the one.
pub one_led : (p who : ℕ) (s : State) → OneLeader false who s → OneLeader true p (led p s)
one_led p who s one q = let e = one q in grind (arith, nat_tests)

-- When the leader has told its answer, nobody leads.
pub one_told_own : (p : ℕ) (locked : Bool) (s : State) → OneLeader locked p s → OneLeader false p (told_at p s)
one_told_own p locked s one q = let e = one q in grind (arith, nat_tests)

-- When another has, the leader stays.
pub one_told_other : (p : ℕ) (locked : Bool) (who : ℕ) (s : State) → (p ≡ who → ⊥) → OneLeader locked who s → OneLeader locked who (told_at p s)
one_told_other p locked who s ne one q = let e = one q in grind (arith, nat_tests)
