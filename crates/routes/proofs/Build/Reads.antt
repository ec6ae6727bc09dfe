-- Reading the nodes on a way, word by word.
use Rattle.std.proofs.Common.{◌≡◌, ℕ, zero, suc, ◌+◌, ◌-◌, ◌<◌, ◌≤◌, ◌⊎◌, ap, ◌∙◌, subst, inl, inr, add-zero, add-suc, arith}
use Rattle.std.proofs.lemmas.Bool.Decides.{nat_tests}
use Rattle.std.proofs.lemmas.Bool.{cases_lt, cases_eq}
use Rattle.words.specs.Address.{nib}
use Rattle.words.specs.Slots.{child_of}
use Rattle.words.proofs.Addresses.{nib_small}
use Rattle.words.proofs.Packing.{child_same}
use Rattle.own.specs.Layout.{image_at, retired_at}
use Rattle.own.specs.Functions.{blanked_in}
use Rattle.own.specs.Images.{taken}
use Rattle.routes.specs.Tree.Trees.{Tree, none, kids_of, block_of, count}
use Rattle.routes.specs.Tree.Walks.{down}
use Rattle.routes.specs.Repr.Repr.{Repr}
use Rattle.routes.specs.Repr.Images.{Own, image_of, Images}
use Rattle.routes.specs.Keys.Keys.{nibs}
use Rattle.routes.specs.Build.Reads.{Reading, Have}
use Rattle.routes.proofs.Tree.Trees.{count_kid, count_block}
use Rattle.routes.proofs.Repr.Nodes.{repr_down, repr_block, repr_none, node_read}
use Rattle.routes.proofs.Repr.Images.{image_kid, image_none}

-- Below no tree there is none.
pub down_none : (a e : ℕ) (t : Tree) (k : ℕ) → down a e t ≡ none → down a (e + k) t ≡ none
unfolding down kids_of
down_none a e t zero n = rw add-zero n
down_none a e t (suc k) n = rw (add-suc e k) (rw (down_none a e t k n))

-- The same by level.
pub none_below : (a e f : ℕ) (t : Tree) → e ≤ f → down a e t ≡ none → down a f t ≡ none
none_below a e f t l n = let q : e + (f - e) ≡ f = omega arith in subst (λ y. down a y t ≡ none) q (down_none a e t (f - e) n)

-- Blocks on a way are the tree's.
pub count_down : (b : ℕ) (t : Tree) (a e : ℕ) → count b (down a e t) ≤ count b t
unfolding down
count_down b t a zero = omega arith
count_down b t a (suc e) = omega (arith, count_down b t a e, count_kid b (down a e t) (nib e a) (nib_small e a))

-- Reading begins at the first node.
pub read_begin : (own : Own) (t : Tree) (retired a b : ℕ) → b ≡ block_of t → (b ≡ 0 → ⊥) → Reading own t retired a 0 0 b
unfolding down
read_begin own t retired a b e z = record { words = λ e j h l. absurd (omega arith); blocks = λ e l. absurd (omega arith); here = e; real = z }

-- The block that is read is the tree's.
pub read_there : (own : Own) (t : Tree) (retired a d i b : ℕ) → Reading own t retired a d i b → 1 ≤ count b t
read_there own t retired a d i b g =
    let c = count_block (down a d t) (λ z. g.real (g.here ∙ z)) in
    let e = count_down (block_of (down a d t)) t a d in
    rw g.here (omega arith)

-- A load: the word is noted, and the block is.
pub read_word : (val : ℕ → ℕ → ℕ) (own own' : Own) (t : Tree) (retired a d i b : ℕ) → d ≤ 8 → i < 31 → Repr val t → Reading own t retired a d i b →
    own' (image_at d i) ≡ taken i (val b i) → own' (retired_at (retired + d)) ≡ b → ((k : ℕ) → (k ≡ image_at d i → ⊥) → (k ≡ retired_at (retired + d) → ⊥) → own' k ≡ own k) →
    Reading own' t retired a d (suc i) b
read_word val own own' t retired a d i b hd hi r g w p s = record {
  words = λ e j hj l. elim (cases_eq (image_at e j) (image_at d i)) [
    | inl q ↦ (let x : e ≡ d = omega arith in let y : j ≡ i = omega arith in ap own' q ∙ w ∙ rw (x, y, g.here) (node_read val (down a d t) i hi (repr_down val a d t r) (λ z. g.real (g.here ∙ z))))
    | inr q ↦ s (image_at e j) q (omega arith) ∙ g.words e j hj (omega arith)
  ];
  blocks = λ e l. elim (cases_eq e d) [
    | inl q ↦ rw q (p ∙ g.here)
    | inr q ↦ s (retired_at (retired + e)) (omega arith) (omega arith) ∙ g.blocks e (omega arith)
  ];
  here = g.here;
  real = g.real;
}

-- A level is read: its image has the block of the next node.
pub read_child : (val : ℕ → ℕ → ℕ) (own : Own) (t : Tree) (retired a d b : ℕ) → Repr val t → Reading own t retired a d 31 b → child_of (own (image_at d (nib d a))) ≡ block_of (down a (suc d) t)
unfolding down
read_child val own t retired a d b r g =
    let s = nib_small d a in
    ap child_of (g.words d (nib d a) (omega arith) (omega arith) ∙ image_kid (down a d t) (nib d a) s) ∙ child_same (block_of (kids_of (down a d t) (nib d a))) (repr_block val (down a (suc d) t) (repr_down val a (suc d) t r))

-- If it is there, it is read next.
pub read_level : (own : Own) (t : Tree) (retired a d b c : ℕ) → Reading own t retired a d 31 b → c ≡ block_of (down a (suc d) t) → (c ≡ 0 → ⊥) → Reading own t retired a (suc d) 0 c
read_level own t retired a d b c g e z = record { words = λ f j h l. g.words f j h (omega arith); blocks = λ f l. g.blocks f (omega arith); here = e; real = z }

-- All are read: it was the last level, or there is no next node.
pub read_end : (val : ℕ → ℕ → ℕ) (own : Own) (t : Tree) (retired a d b deep : ℕ) → Repr val t → Reading own t retired a d 31 b → d ≤ deep → (d ≡ deep) ⊎ (block_of (down a (suc d) t) ≡ 0) →
    Have own t retired a (suc d) deep
unfolding block_of
read_end val own t retired a d b deep r g l k =
    record {
      words = λ e j h m. g.words e j m (omega arith);
      blocks = λ e h. g.blocks e (omega arith);
      few = omega arith;
      real = λ e h z. g.real (g.here ∙ ap block_of (none_below a e d t (omega arith) (repr_none val (down a e t) (repr_down val a e t r) z)));
      end = λ h. elim k [
        | inl e ↦ absurd (omega arith)
        | inr e ↦ repr_none val (down a (suc d) t) (repr_down val a (suc d) t r) e
      ];
    }

-- There is nothing to read.
pub have_none : (own : Own) (t : Tree) (retired a deep : ℕ) → t ≡ none → Have own t retired a 0 deep
unfolding down
have_none own t retired a deep n =
    record { words = λ e j l. absurd (omega arith); blocks = λ e l. absurd (omega arith); real = λ e l. absurd (omega arith); few = omega arith; end = λ _. n }

-- With noughts for the nodes that are not there, all levels have their images.
have_all : (own : Own) (t : Tree) (retired a have deep : ℕ) → Have own t retired a have deep → (e j : ℕ) → e ≤ deep → j < 31 → blanked_in have deep own (image_at e j) ≡ image_of (down a e t) j
have_all own t retired a have deep g e j h l = elim (cases_lt e have) [
  | inl m ↦ let o = g.words e j m l in grind (arith, nat_tests)
  | inr m ↦ rw (none_below a have e t m (g.end (omega arith)), image_none j) (grind (arith, nat_tests))
]

-- Images of all levels are images of the way.
images_down : (own : Own) (t : Tree) (a deep k d : ℕ) → d + k ≡ deep → ((e j : ℕ) → e ≤ deep → j < 31 → own (image_at e j) ≡ image_of (down a e t) j) → Images own d (nibs d k a) (down a d t)
unfolding Images nibs down
images_down own t a deep zero d q h = λ i l. h d i (omega arith) l
images_down own t a deep (suc k) d q h = ((λ i l. h d i (omega arith) l), images_down own t a deep k (suc d) (omega arith) h)

-- So the images of the way are there.
pub have_images : (own : Own) (t : Tree) (retired a have deep : ℕ) → Have own t retired a have deep → Images (blanked_in have deep own) 0 (nibs 0 deep a) t
unfolding down
have_images own t retired a have deep g = images_down (blanked_in have deep own) t a deep deep 0 (omega arith) (have_all own t retired a have deep g)
