-- Trees in memory: what is loaded of a node, and what keeps a tree standing.
use Rattle.std.proofs.Common.{◌≡◌, ℕ, zero, suc, ◌+◌, ◌-◌, ◌^◌, ◌<◌, sym, refl, ap, ◌∙◌, inl, inr, arith}
use Rattle.std.proofs.lemmas.Bool.Decides.{nat_tests}
use Rattle.std.proofs.lemmas.Bool.{cases_lt, lt-ltb, le-ltb}
use Rattle.words.specs.Slots.{best_fit, child_of, fit_of}
use Rattle.words.proofs.Addresses.{nib_small}
use Rattle.words.proofs.Packing.{child_slot, fit_slot, best_inside}
use Rattle.words.specs.Address.{nib}
use Rattle.routes.specs.Tree.Trees.{Tree, none, node, routes_of, kids_of, block_of, count}
use Rattle.routes.specs.Tree.Walks.{down}
use Rattle.routes.specs.Repr.Repr.{Repr}
use Rattle.routes.specs.Repr.Images.{image_of}
use Rattle.routes.specs.Repr.Laws.{ReprStays, NodesRead}
use Rattle.routes.proofs.Counts.Sums.{sum_at}

-- A kid stands.
pub repr_kid : (val : ℕ → ℕ → ℕ) (t : Tree) (n : ℕ) → n < 16 → Repr val t → Repr val (kids_of t n)
unfolding Repr kids_of
repr_kid val none n h r = tt
repr_kid val (node b rs ks) n h r = r.1 n h

-- So does every node on a way.
pub repr_down : (val : ℕ → ℕ → ℕ) (a e : ℕ) (t : Tree) → Repr val t → Repr val (down a e t)
unfolding down
repr_down val a zero t r = r
repr_down val a (suc e) t r = repr_kid val (down a e t) (nib e a) (nib_small e a) (repr_down val a e t r)

-- A block's number has 20 bits.
pub repr_block : (val : ℕ → ℕ → ℕ) (t : Tree) → Repr val t → block_of t < 2 ^ 20
unfolding Repr block_of
repr_block val none r = omega arith
repr_block val (node b rs ks) r = r.0.small

-- Block 0 is no node's.
pub repr_none : (val : ℕ → ℕ → ℕ) (t : Tree) → Repr val t → block_of t ≡ 0 → t ≡ none
unfolding Repr block_of
repr_none val none r e = refl
repr_none val (node b rs ks) r e = let k = r.0.real in absurd (omega arith)

-- A node's block is not 0.
pub repr_real : (val : ℕ → ℕ → ℕ) (b : ℕ) (rs : ℕ → ℕ) (ks : ℕ → Tree) → Repr val (node b rs ks) → b ≡ 0 → ⊥
unfolding Repr
repr_real val b rs ks r e = omega (arith, r.0.real)

-- The child of a slot is the kid's block.
pub slot_child : (val : ℕ → ℕ → ℕ) (t : Tree) (n : ℕ) → n < 16 → Repr val t → (block_of t ≡ 0 → ⊥) → child_of (val (block_of t) n) ≡ block_of (kids_of t n)
unfolding Repr block_of kids_of
slot_child val none n h r z = absurd (z refl)
slot_child val (node b rs ks) n h r z = ap child_of (r.0.slots n h) ∙ child_slot (block_of (ks n)) (best_fit rs n) (repr_block val (ks n) (r.1 n h))

-- The fit of a slot is the best of the node's routes there.
pub slot_fit : (val : ℕ → ℕ → ℕ) (t : Tree) (n : ℕ) → n < 16 → Repr val t → (block_of t ≡ 0 → ⊥) → fit_of (val (block_of t) n) ≡ best_fit (routes_of t) n
unfolding Repr block_of routes_of
slot_fit val none n h r z = absurd (z refl)
slot_fit val (node b rs ks) n h r z = ap fit_of (r.0.slots n h) ∙ fit_slot (block_of (ks n)) (best_fit rs n) (repr_block val (ks n) (r.1 n h)) (best_inside rs n)

-- On a way the child of the slot is the next node's block.
pub slot_down : (val : ℕ → ℕ → ℕ) (t : Tree) (a d b : ℕ) → Repr val t → b ≡ block_of (down a d t) → (b ≡ 0 → ⊥) → child_of (val b (nib d a)) ≡ block_of (down a (suc d) t)
unfolding down
slot_down val t a d b r e z = rw e (slot_child val (down a d t) (nib d a) (nib_small d a) (repr_down val a d t r) (λ y. z (e ∙ y)))

-- A route word is the node's.
pub route_word_lem : (val : ℕ → ℕ → ℕ) (t : Tree) (x : ℕ) → x < 15 → Repr val t → (block_of t ≡ 0 → ⊥) → val (block_of t) (16 + x) ≡ routes_of t x
unfolding Repr block_of routes_of
route_word_lem val none x h r z = absurd (z refl)
route_word_lem val (node b rs ks) x h r z = r.0.words x h

-- A node that is read whole gives its image.
pub node_read : NodesRead
unfolding image_of
node_read val t i h r z = elim (cases_lt i 16) [
  | inl l ↦ rw (lt-ltb i 16 l) (slot_child val t i l r z)
  | inr l ↦ rw (le-ltb i 16 l) (let q : 16 + (i - 16) ≡ i = omega arith in ap (val (block_of t)) (sym q) ∙ route_word_lem val t (i - 16) (omega arith) r z)
]

-- A tree stands as long as words 0 to 30 of its blocks do.
pub repr_stays : ReprStays
unfolding Repr count
repr_stays u v none s r = tt
repr_stays u v (node b rs ks) s r =
    let here : (i : ℕ) → i < 31 → v b i ≡ u b i = λ i h. s b i (grind (arith, nat_tests)) h in (
      record { real = r.0.real; small = r.0.small; slots = λ n h. here n (omega arith) ∙ r.0.slots n h; words = λ x h. here (16 + x) (omega arith) ∙ r.0.words x h },
      λ n h. repr_stays u v (ks n) (λ c i l k. s c i (omega (arith, sum_at 16 n (λ n. count c (ks n)) h)) k) (r.1 n h),
    )
