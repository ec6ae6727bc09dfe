-- Images of nodes: writing one and reading the node back gives the image again.
use Rattle.std.proofs.Common.{◌≡◌, ℕ, zero, suc, ◌+◌, ◌^◌, ◌<◌, ◌≤◌, true, cond, ◌&&◌, eqb, ◌⊎◌, refl, ap, ◌∙◌, inl, inr, arith}
use Rattle.std.proofs.lemmas.Bool.{lt-ltb, le-ltb, cases_lt, cases_eq, eqb-true, and_parts}
use Rattle.std.proofs.lemmas.Bool.Decides.{nat_tests}
use Rattle.words.specs.Slots.{best_fit, slot_word, child_of, fit_of}
use Rattle.words.proofs.Packing.{child_same, child_small, child_slot, fit_slot, best_inside, best_same}
use Rattle.own.specs.Layout.{image_at, put}
use Rattle.own.specs.Images.{taken, packed, noughts}

-- A write into an image changes one word of one level.
pub image_put : (f : ℕ → ℕ) (d i x e j : ℕ) → i < 32 → j < 32 → put (image_at d i) x f (image_at e j) ≡ cond (eqb e d && eqb j i) x (f (image_at e j))
image_put f d i x e j h k = grind (arith, nat_tests)

-- A write into an image leaves what stands outside the images.
pub image_outside : (f : ℕ → ℕ) (d i x j : ℕ) → d ≤ 8 → i < 32 → (j < 32) ⊎ (320 ≤ j) → put (image_at d i) x f j ≡ f j
image_outside f d i x j h k (inl l) = grind (arith, nat_tests)
image_outside f d i x j h k (inr l) = grind (arith, nat_tests)

-- The slots of a node are packed of its image.
pub packed_slot : (im : ℕ → ℕ) (n : ℕ) → n < 16 → packed im n ≡ slot_word (child_of (im n)) (best_fit (λ x. im (16 + x)) n)
unfolding packed
packed_slot im n h = rw (lt-ltb n 16 h)

-- Its route words are those of the image.
pub packed_route : (im : ℕ → ℕ) (x : ℕ) → packed im (16 + x) ≡ im (16 + x)
unfolding packed
packed_route im x = let k : 16 ≤ 16 + x = omega arith in rw (le-ltb (16 + x) 16 k)

-- A slot's child is that of the image.
pub packed_child : (im : ℕ → ℕ) (n : ℕ) → n < 16 → child_of (packed im n) ≡ child_of (im n)
packed_child im n h = ap child_of (packed_slot im n h) ∙ child_slot (child_of (im n)) (best_fit (λ x. im (16 + x)) n) (child_small (im n))

-- A slot's fit is the longest of the image's routes.
pub packed_fit : (im : ℕ → ℕ) (n : ℕ) → n < 16 → fit_of (packed im n) ≡ best_fit (λ x. im (16 + x)) n
packed_fit im n h =
    ap fit_of (packed_slot im n h) ∙ fit_slot (child_of (im n)) (best_fit (λ x. im (16 + x)) n) (child_small (im n)) (best_inside (λ x. im (16 + x)) n)

-- Images that agree in 31 words are packed alike.
pub packed_same : (im jm : ℕ → ℕ) (i : ℕ) → i < 31 → ((j : ℕ) → j < 31 → im j ≡ jm j) → packed im i ≡ packed jm i
unfolding packed
packed_same im jm i h s = elim (cases_lt i 16) [
  | inl l ↦ rw (lt-ltb i 16 l) (rw (s i h, best_same (λ x. im (16 + x)) (λ x. jm (16 + x)) i l (λ x k. s (16 + x) (omega arith))))
  | inr l ↦ rw (le-ltb i 16 l) (s i h)
]

-- What is read of a node that was written of an image is the image.
pub taken-packed : (im : ℕ → ℕ) (i : ℕ) → i < 31 → (i < 16 → im i < 2 ^ 20) → taken i (packed im i) ≡ im i
unfolding packed
taken-packed im i h s = elim (cases_lt i 16) [
  | inl l ↦ rw (lt-ltb i 16 l) (child_slot (child_of (im i)) (best_fit (λ x. im (16 + x)) i) (child_small (im i)) ∙ child_same (im i) (s l))
  | inr l ↦ rw (le-ltb i 16 l)
]

-- Noughts are 0 each.
pub noughts_each : (n : ℕ) (f : ℕ → ℕ) → noughts n f ≡ true → (i : ℕ) → i < n → f i ≡ 0
unfolding noughts
noughts_each zero f e i h = absurd (omega arith)
noughts_each (suc n) f e i h =
    let p = and_parts (noughts n f) (eqb (f n) 0) e in
    elim (cases_eq i n) [ inl q ↦ rw q (eqb-true (f n) 0 p.1) | inr q ↦ noughts_each n f p.0 i (omega arith) ]

-- Where each is 0 they are noughts.
pub noughts_from : (n : ℕ) (f : ℕ → ℕ) → ((i : ℕ) → i < n → f i ≡ 0) → noughts n f ≡ true
unfolding noughts
noughts_from zero f s = refl
noughts_from (suc n) f s = let ih = noughts_from n f (λ i h. s i (omega arith)) in let z = s n (omega arith) in rw (ih, z)

-- Noughts depend on the first words only.
pub noughts_same : (n : ℕ) (f g : ℕ → ℕ) → ((i : ℕ) → i < n → f i ≡ g i) → noughts n f ≡ noughts n g
unfolding noughts
noughts_same zero f g s = refl
noughts_same (suc n) f g s = rw (noughts_same n f g (λ i h. s i (omega arith)), s n (omega arith))
