-- Functions changed at one place: set_at of one number, set_val of two.
use Rattle.std.proofs.Common.{◌≡◌, ℕ, sym, refl, ap, ◌∙◌, inl, inr, arith}
use mathlib.Core.Path.{fun_ext}
use Rattle.std.proofs.lemmas.Bool.Decides.{nat_tests, eqb_tells}
use Rattle.routes.specs.Memory.{set_at, set_val}

-- At the place itself it is the new value.
pub set_at_hit : {A : Type 0} (p q : ℕ) (y : A) (f : ℕ → A) → q ≡ p → set_at p y f q ≡ y
set_at_hit p q y f e = grind (arith, nat_tests)

-- Elsewhere it is as before.
pub set_at_miss : {A : Type 0} (p q : ℕ) (y : A) (f : ℕ → A) → (q ≡ p → ⊥) → set_at p y f q ≡ f q
set_at_miss p q y f e = grind (arith, nat_tests)

-- The last of two changes at one place counts.
pub set_at_again : {A : Type 0} (p : ℕ) (x y : A) (f : ℕ → A) → set_at p x (set_at p y f) ≡ set_at p x f
set_at_again p x y f = fun_ext (λ q. elim (eqb_tells q p) [ inl e ↦ rw e.0 refl | inr e ↦ rw e.0 refl ])

-- To set what is there changes nothing.
pub set_at_same : {A : Type 0} (p : ℕ) (x : A) (f : ℕ → A) → f p ≡ x → set_at p x f ≡ f
set_at_same p x f h = fun_ext (λ q. elim (eqb_tells q p) [ inl e ↦ rw e.0 (sym h ∙ ap f (sym e.1)) | inr e ↦ rw e.0 refl ])

-- At the word itself it is the new value.
pub set_val_hit : (b w x : ℕ) (f : ℕ → ℕ → ℕ) → set_val b w x f b w ≡ x
set_val_hit b w x f = grind (arith, nat_tests)

-- Other words are as before.
pub set_val_miss : (b w x : ℕ) (f : ℕ → ℕ → ℕ) (c v : ℕ) → ((c ≡ b) × (v ≡ w) → ⊥) → set_val b w x f c v ≡ f c v
set_val_miss b w x f c v ne = grind (arith, nat_tests)
