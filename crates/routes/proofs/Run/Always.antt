-- What holds of everything that may be seen.
use Rattle.std.proofs.Common.{◌≡◌, ℕ, ◌<◌, ◌≤◌, true, false, not, ◌&&◌, eqb, List, sym, refl, ap, ◌∙◌, inl, inr, arith}
use Rattle.std.proofs.lemmas.Bool.Decides.{nat_tests, eqb_tells}
use Rattle.std.proofs.lemmas.Bool.{cases_Bool, cases_lt, ltb-true, both_ways, ne_eqb, and_parts, not-true}
use Rattle.routes.specs.Routes.{Event, Quiet, State, Run, busy, is_question, leader, must_wait, young, under}
use Rattle.routes.specs.Run.Nows.{is_change, age_of, limit_of, in_list}
use Rattle.routes.specs.Run.Steps.{turned_at}
use Rattle.routes.proofs.Run.Nows.{quiet_is, young_is, kind_busy}
use Rattle.routes.proofs.Run.Leads.{some_leader}
use Rattle.routes.proofs.Run.Steps.{turned_kind, settled_kind, turned_age, settled_age, turned_waits, told_waits}
use Rattle.routes.proofs.Run.Keeps.{Kept, always}

-- Who is young gets no older than it may by a turn.
aged_turned : (cpus p q : ℕ) (s : State) → young (s.now' p) ≡ true → age_of (s.now' q) ≤ limit_of (s.now' q) → age_of ((turned_at cpus p s).now' q) ≤ limit_of ((turned_at cpus p s).now' q)
aged_turned cpus p q s y h =
    let below : age_of (s.now' p) < limit_of (s.now' p) = ltb-true _ _ (sym (young_is (s.now' p)) ∙ y) in
    rw (turned_age cpus p q s, (turned_kind cpus p q s).limits) (elim (eqb_tells q p) [
      | inl e ↦ rw e.1 (grind (arith, nat_tests))
      | inr e ↦ rw e.0 (omega arith)
    ])

-- Who is waited for after a turn was so before, or asks.
waits_turned : (cpus p w q : ℕ) (s : State) → (in_list q (s.waits w) ≡ true → is_question (s.now' q) ≡ true) → in_list q ((turned_at cpus p s).waits w) ≡ true → is_question (s.now' q) ≡ true
waits_turned cpus p w q s h f = elim (cases_Bool (eqb w p && not (must_wait cpus p s))) [
  | inl e ↦ (and_parts _ _ (rw e at (sym (turned_waits cpus p w q s) ∙ f))).1
  | inr e ↦ h (rw e at (sym (turned_waits cpus p w q s) ∙ f))
]

module _ (cpus blocks : ℕ) where
  -- What was seen says what is under way: each step keeps that.
  under_kept : Kept cpus blocks (λ es s. (q : ℕ) → under q es ≡ busy (s.now' q))
  unfolding under busy
  under_kept = record {
    start = λ q. refl;
    ask = λ es s p k ps r h l e q. elim (eqb_tells q p) [ inl i ↦ rw i.0 refl | inr i ↦ rw i.0 (h q) ];
    settle = λ es s p k ps g a t r h e q. h q ∙ sym (kind_busy (settled_kind p q k ps a g t s e));
    lead' = λ es s p r h c l. h;
    turn = λ es s p r h y q. h q ∙ sym (kind_busy (turned_kind cpus p q s));
    tell = λ es s p k a g r h e q. elim (eqb_tells q p) [ inl i ↦ rw i.0 refl | inr i ↦ rw i.0 (h q) ];
  }

  -- Past the last processor nothing is under way: each step keeps that.
  outside_kept : Kept cpus blocks (λ es s. (q : ℕ) → cpus ≤ q → busy (s.now' q) ≡ false)
  unfolding busy
  outside_kept = record {
    start = λ q o. refl;
    ask = λ es s p k ps r h l e q o. rw (ne_eqb q p (λ i. omega arith)) (h q o);
    settle = λ es s p k ps g a t r h e q o. kind_busy (settled_kind p q k ps a g t s e) ∙ h q o;
    lead' = λ es s p r h c l. h;
    turn = λ es s p r h y q o. kind_busy (turned_kind cpus p q s) ∙ h q o;
    tell = λ es s p k a g r h e q o. elim (eqb_tells q p) [ inl i ↦ rw i.0 refl | inr i ↦ rw i.0 (h q o) ];
  }

  -- Nothing is older than it may be: each step keeps that.
  aged_kept : Kept cpus blocks (λ es s. (q : ℕ) → age_of (s.now' q) ≤ limit_of (s.now' q))
  unfolding age_of limit_of
  aged_kept = record {
    start = λ q. omega arith;
    ask = λ es s p k ps r h l e q. elim (eqb_tells q p) [ inl i ↦ rw i.0 (omega arith) | inr i ↦ rw i.0 (h q) ];
    settle = λ es s p k ps g a t r h e q. rw (settled_age p q k ps a g t s e, (settled_kind p q k ps a g t s e).limits) (h q);
    lead' = λ es s p r h c l. h;
    turn = λ es s p r h y q. aged_turned cpus p q s y (h q);
    tell = λ es s p k a g r h e q. elim (eqb_tells q p) [ inl i ↦ rw i.0 (omega arith) | inr i ↦ rw i.0 (h q) ];
  }

  -- Who leads has a change under way: each step keeps that.
  leads_kept : Kept cpus blocks (λ es s. (q : ℕ) → s.lead q ≡ true → is_change (s.now' q) ≡ true)
  unfolding is_change
  leads_kept = record {
    start = λ q f. cc;
    ask = λ es s p k ps r h l e q f. elim (eqb_tells q p) [
      | inl i ↦ cc (h q f, ap s.now' i.1 ∙ e)
      | inr i ↦ rw i.0 (h q f)
    ];
    settle = λ es s p k ps g a t r h e q f. (settled_kind p q k ps a g t s e).change ∙ h q f;
    lead' = λ es s p r h c l q f. elim (eqb_tells q p) [ inl i ↦ rw i.1 c | inr i ↦ h q (rw i.0 at f) ];
    turn = λ es s p r h y q f. (turned_kind cpus p q s).change ∙ h q f;
    tell = λ es s p k a g r h e q f. elim (eqb_tells q p) [
      | inl i ↦ (let z : false ≡ true = rw i.0 at f in cc)
      | inr i ↦ rw i.0 (h q (rw i.0 at f))
    ];
  }

  -- Who is waited for has a question under way: each step keeps that.
  waits_kept : Kept cpus blocks (λ es s. (p q : ℕ) → in_list q (s.waits p) ≡ true → is_question (s.now' q) ≡ true)
  unfolding is_question in_list
  waits_kept = record {
    start = λ p q f. cc;
    ask = λ es s p k ps r h l e w q f. elim (eqb_tells q p) [
      | inl i ↦ cc (h w q f, ap s.now' i.1 ∙ e)
      | inr i ↦ rw i.0 (h w q f)
    ];
    settle = λ es s p k ps g a t r h e w q f. (settled_kind p q k ps a g t s e).question ∙ h w q f;
    lead' = λ es s p r h c l. h;
    turn = λ es s p r h y w q f. (turned_kind cpus p q s).question ∙ waits_turned cpus p w q s (h w q) f;
    tell = λ es s p k a g r h e w q f. (let b = and_parts _ _ (sym (told_waits p w q s) ∙ f) in rw (not-true (eqb q p) b.0) (h w q b.1));
  }

module _ {cpus blocks : ℕ} {es : List Event} {s : State} (r : Run cpus blocks es s) where
  -- Under way, by what was seen, is what is not quiet.
  pub under_is : (p : ℕ) → under p es ≡ busy (s.now' p)
  under_is = always cpus blocks (λ es s. (q : ℕ) → under q es ≡ busy (s.now' q)) (under_kept cpus blocks) r

  -- Past the last processor all is quiet.
  pub outside_quiet : (p : ℕ) → cpus ≤ p → s.now' p ≡ Quiet
  outside_quiet p o = quiet_is (s.now' p) (always cpus blocks (λ es s. (q : ℕ) → cpus ≤ q → busy (s.now' q) ≡ false) (outside_kept cpus blocks) r p o)

  -- Nothing is older than it may be.
  pub none_too_old : (p : ℕ) → age_of (s.now' p) ≤ limit_of (s.now' p)
  none_too_old = always cpus blocks (λ es s. (q : ℕ) → age_of (s.now' q) ≤ limit_of (s.now' q)) (aged_kept cpus blocks) r

  -- Who leads has a change under way.
  pub leader_changes : (p : ℕ) → s.lead p ≡ true → is_change (s.now' p) ≡ true
  leader_changes = always cpus blocks (λ es s. (q : ℕ) → s.lead q ≡ true → is_change (s.now' q) ≡ true) (leads_kept cpus blocks) r

  -- Who is waited for has a question under way.
  pub waited_asks : (p q : ℕ) → in_list q (s.waits p) ≡ true → is_question (s.now' q) ≡ true
  waited_asks = always cpus blocks (λ es s. (p q : ℕ) → in_list q (s.waits p) ≡ true → is_question (s.now' q) ≡ true) (waits_kept cpus blocks) r

  -- Who leads is a processor.
  pub leader_small : (p : ℕ) → s.lead p ≡ true → p < cpus
  unfolding is_change
  leader_small p f = elim (cases_lt p cpus) [
    | inl l ↦ l
    | inr o ↦ (let z : ◌≡◌ {A = ℕ} 0 1 = cc (leader_changes p f, outside_quiet p o) in absurd (omega arith))
  ]

  -- Where no other leads, nobody else does.
  no_other : (p q : ℕ) → leader cpus p s ≡ false → (q ≡ p → ⊥) → s.lead q ≡ false
  no_other p q none ne = elim (cases_Bool (s.lead q)) [
    | inl f ↦ absurd (both_ways _ none (some_leader cpus p q s (leader_small q f) ne f))
    | inr f ↦ f
  ]

-- At most one leads: each step keeps that.
one_kept : (cpus blocks : ℕ) → Kept cpus blocks (λ es s. (p q : ℕ) → s.lead p ≡ true → s.lead q ≡ true → q ≡ p)
one_kept cpus blocks = record {
  start = λ p q f i. cc;
  ask = λ es s p k ps r h l e. h;
  settle = λ es s p k ps g a t r h e. h;
  lead' = λ es s p r h c l u v f i. (let x = no_other r p u l in let y = no_other r p v l in grind (arith, nat_tests));
  turn = λ es s p r h y. h;
  tell = λ es s p k a g r h e u v f i. (let x = h u v in grind (arith, nat_tests));
}

-- At most one leads.
pub one_leads_lem : {cpus blocks : ℕ} {es : List Event} {s : State} → Run cpus blocks es s → (p q : ℕ) → s.lead p ≡ true → s.lead q ≡ true → q ≡ p
one_leads_lem {cpus} {blocks} r = always cpus blocks (λ es s. (p q : ℕ) → s.lead p ≡ true → s.lead q ≡ true → q ≡ p) (one_kept cpus blocks) r
