-- Images of nodes among the own words.
use Rattle.std.proofs.Common.{◌≡◌, ℕ, zero, suc, ◌+◌, ◌-◌, ◌<◌, ◌≤◌, eqb, List, [], ◌∷◌, length, refl, ap, ◌∙◌, subst, inl, inr, arith}
use Rattle.std.proofs.lemmas.Bool.Decides.{nat_tests}
use Rattle.std.proofs.lemmas.Bool.{cases_lt}
use Rattle.own.specs.Layout.{image_at}
use Rattle.own.specs.Images.{noughts, bare}
use Rattle.routes.specs.Counts.Counts.{some, sum}
use Rattle.routes.specs.Keys.Keys.{Nibbles}
use Rattle.routes.specs.Tree.Trees.{Tree, none, routes_of, kids_of, block_of, there, count, weight}
use Rattle.routes.specs.Tree.Edits.{cut}
use Rattle.routes.specs.Repr.Images.{Own, image_of, Image, Images}
use Rattle.routes.proofs.Counts.Sums.{sum_same, sum_split}
use Rattle.routes.proofs.Tree.Trees.{count_kid, there_block, empty_kid, empty_route}
use Rattle.routes.proofs.Tree.Edits.{cut_cases}

-- An image has the kids' blocks.
pub image_kid : (t : Tree) (n : ℕ) → n < 16 → image_of t n ≡ block_of (kids_of t n)
unfolding image_of
image_kid t n h = grind (arith, nat_tests)

-- And the routes.
pub image_route : (t : Tree) (x : ℕ) → image_of t (16 + x) ≡ routes_of t x
unfolding image_of
image_route t x = let q : 16 + x - 16 ≡ x = omega arith in rw q (grind (arith, nat_tests))

-- Of no tree it is noughts.
pub image_none : (i : ℕ) → image_of none i ≡ 0
unfolding image_of kids_of block_of routes_of
image_none i = grind (arith, nat_tests)

-- And of an empty node.
image_empty : (t : Tree) → weight t ≡ 0 → (i : ℕ) → i < 31 → image_of t i ≡ image_of none i
unfolding image_of kids_of routes_of block_of
image_empty t e i h = elim (cases_lt i 16) [
  | inl l ↦ let k = empty_kid t i e l in grind (arith, nat_tests)
  | inr l ↦ let k = empty_route t (i - 16) e (omega arith) in grind (arith, nat_tests)
]

-- Values are noughts if none of them is something.
noughts-sum : (n : ℕ) (f : ℕ → ℕ) → noughts n f ≡ eqb (sum n (λ i. some (f i))) 0
unfolding noughts sum
noughts-sum zero f = refl
noughts-sum (suc n) f = let ih = noughts-sum n f in grind (arith, nat_tests)

-- An image is noughts if its node is empty.
pub image_bare : (own : Own) (d : ℕ) (t : Tree) → Image own d t → count 0 t ≡ 0 → bare own d ≡ eqb (weight t) 0
unfolding weight
image_bare own d t p z =
    let a : sum 15 (λ i. some (own (image_at d (16 + i)))) ≡ sum 15 (λ x. some (routes_of t x)) =
    sum_same 15 (λ i. some (own (image_at d (16 + i)))) (λ x. some (routes_of t x)) (λ i h. ap (λ z. some z) (p (16 + i) (omega arith) ∙ image_route t i)) in
    let b : sum 16 (λ i. some (own (image_at d i))) ≡ sum 16 (λ n. there (kids_of t n)) =
    sum_same 16 (λ i. some (own (image_at d i))) (λ n. there (kids_of t n))
    (λ i h. ap (λ z. some z) (p i (omega arith) ∙ image_kid t i h) ∙ there_block (kids_of t i) (omega (arith, count_kid 0 t i h))) in
    let s = sum_split 16 15 (λ w. some (own (image_at d w))) in
    rw (noughts-sum 31 (λ w. own (image_at d w)), s, a, b)

-- The first of the images on a way.
pub images_first : (own : Own) (d : ℕ) (ns : List ℕ) (t : Tree) → Images own d ns t → Image own d t
unfolding Images
images_first own d [] t p = p
images_first own d (n ∷ ns) t p = p.0

-- Images stay as long as their words do.
pub images_stay : (own own' : Own) (d : ℕ) (ns : List ℕ) (t : Tree) → ((e j : ℕ) → d ≤ e → e ≤ d + length ns → j < 31 → own' (image_at e j) ≡ own (image_at e j)) → Images own d ns t → Images own' d ns t
unfolding Images
images_stay own own' d [] t s p = λ i h. s d i (omega arith) (omega arith) h ∙ p i h
images_stay own own' d (n ∷ ns) t s p =
    ((λ i h. s d i (omega arith) (omega arith) h ∙ p.0 i h), images_stay own own' (suc d) ns (kids_of t n) (λ e j l m h. s e j (omega arith) (omega arith) h) p.1)

-- The images on a way that is cut are noughts already.
pub images_cut : (own : Own) (d : ℕ) (ns : List ℕ) (t : Tree) → Nibbles ns → Images own d ns t → Images own d ns (cut t)
unfolding Images Nibbles kids_of
images_cut own d [] t ok p = elim (cut_cases t) [ inl e ↦ rw e.1 (λ i h. p i h ∙ image_empty t e.0 i h) | inr e ↦ rw e.1 p ]
images_cut own d (n ∷ ns) t ok p = elim (cut_cases t) [
  | inl e ↦ rw e.1 ((λ i h. p.0 i h ∙ image_empty t e.0 i h), subst (λ z. Images own (suc d) ns z) (empty_kid t n e.0 ok.0) p.1)
  | inr e ↦ rw e.1 p
]
