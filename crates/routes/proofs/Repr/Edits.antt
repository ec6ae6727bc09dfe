-- Images on a way, edited, are the images of the edited tree.
use Rattle.std.proofs.Common.{◌≡◌, ℕ, suc, ◌+◌, ◌<◌, ◌≤◌, false, cond, eqb, List, [], ◌∷◌, length, sym, refl, ◌∙◌, subst, inl, inr, arith}
use Rattle.std.proofs.lemmas.Bool.Decides.{nat_tests, eqb_tells}
use Rattle.own.specs.Layout.{image_at}
use Rattle.own.specs.Images.{bare}
use Rattle.own.proofs.Imaged.{image_put}
use Rattle.routes.specs.Memory.{set_at}
use Rattle.routes.specs.Keys.Keys.{Nibbles}
use Rattle.routes.specs.Tree.Trees.{Tree, node, routes_of, kids_of, block_of, there, count, depth, weight}
use Rattle.routes.specs.Tree.Edits.{RouteEdit, cut, edit}
use Rattle.routes.specs.Repr.Images.{Own, image_of, Image, Images, edit_images, levels_left}
use Rattle.routes.specs.Repr.Laws.{ImagesEdited}
use Rattle.routes.proofs.Basics.Places.{set_at_hit}
use Rattle.routes.proofs.Tree.Trees.{count_kid}
use Rattle.routes.proofs.Tree.Edits.{kid_edit, block_edit, block_cut, depth-cut, zero_edit}
use Rattle.routes.proofs.Repr.Images.{image_bare, images_first, images_stay, images_cut}

-- An edit leaves the levels above it.
pub edit_above : (c : RouteEdit) (d : ℕ) (ns : List ℕ) (own : Own) (e j : ℕ) → c.place < 15 → Nibbles ns → e < d → j < 32 → edit_images c d ns own (image_at e j) ≡ own (image_at e j)
unfolding edit_images Nibbles
edit_above c d [] own e j hx ok l h = grind (arith, nat_tests)
edit_above c d (n ∷ ns) own e j hx ok l h =
    let ih = edit_above c (suc d) ns own e j hx ok.1 (omega arith) h in
    let k = ok.0 in
    image_put (edit_images c (suc d) ns own) d n (cond (bare (edit_images c (suc d) ns own) (suc d)) 0 (c.fresh (suc d))) e j (omega arith) h ∙ grind (arith, nat_tests)

-- And all behind the images.
pub edit_behind : (c : RouteEdit) (d : ℕ) (ns : List ℕ) (own : Own) (i : ℕ) → c.place < 15 → Nibbles ns → d + length ns ≤ 8 → 320 ≤ i → edit_images c d ns own i ≡ own i
unfolding edit_images Nibbles
edit_behind c d [] own i hx ok l h = grind (arith, nat_tests)
edit_behind c d (n ∷ ns) own i hx ok l h =
    let ih = edit_behind c (suc d) ns own i hx ok.1 (omega arith) h in
    let k = ok.0 in
    let ne : eqb i (image_at d n) ≡ false = grind (arith, nat_tests) in
    rw ne ih

-- Setting a route word of a node.
image_word_lem : (own : Own) (d x w b : ℕ) (t : Tree) → x < 15 → Image own d t → Image (set_at (image_at d (16 + x)) w own) d (node b (set_at x w (routes_of t)) (kids_of t))
unfolding image_of routes_of kids_of
image_word_lem own d x w b t hx p j h = let e = p j h in image_put own d (16 + x) w d j (omega arith) (omega arith) ∙ grind (arith, nat_tests)

-- Pointing at the next level's tree, which may have been cut.
images_point : (own : Own) (d n w b : ℕ) (ns : List ℕ) (t u : Tree) → n < 16 → Nibbles ns → Image own d t → Images own (suc d) ns u → w ≡ block_of (cut u) →
    Images (set_at (image_at d n) w own) d (n ∷ ns) (node b (routes_of t) (set_at n (cut u) (kids_of t)))
unfolding Images image_of kids_of routes_of block_of
images_point own d n w b ns t u hn ok p q e = (
  (λ j h. let o = p j h in image_put own d n w d j (omega arith) (omega arith) ∙ elim (eqb_tells j n) [ inl i ↦ grind (arith, nat_tests) | inr i ↦ rw i.0 (grind (arith, nat_tests)) ]),
  subst (λ z. Images (set_at (image_at d n) w own) (suc d) ns z) (sym (set_at_hit n n (cut u) (kids_of t) refl))
      (images_stay own (set_at (image_at d n) w own) (suc d) ns (cut u) (λ f j l m h. image_put own d n w f j (omega arith) (omega arith) ∙ grind (arith, nat_tests)) (images_cut own (suc d) ns u ok q)),
)

-- the new blocks of levels d to d + k are none of them block 0
abbrev pub Real : RouteEdit → ℕ → ℕ → Type 0
Real c d k = (e : ℕ) → d ≤ e → e ≤ d + k → c.fresh e ≡ 0 → ⊥

-- So from a level on they are, too.
real_next : (c : RouteEdit) (d k : ℕ) → Real c d (suc k) → Real c (suc d) k
real_next c d k f e a b = f e (omega arith) (omega arith)

-- The image of an edited node is noughts if the node is empty.
edited-bare : (c : RouteEdit) (d : ℕ) (ns : List ℕ) (own : Own) (t : Tree) → Nibbles ns → Real c d (length ns) → count 0 t ≡ 0 → Images (edit_images c d ns own) d ns (edit c d ns t) →
    bare (edit_images c d ns own) d ≡ eqb (weight (edit c d ns t)) 0
edited-bare c d ns own t ok f z p =
    image_bare (edit_images c d ns own) d (edit c d ns t) (images_first (edit_images c d ns own) d ns (edit c d ns t) p) (zero_edit c d ns t ok f z)

-- Images on a way, edited, are the images of the edited tree.
pub images_edit : ImagesEdited
unfolding Images edit edit_images Nibbles
images_edit c d [] own t hx ok f z p = image_word_lem own d c.place c.word (c.fresh d) t hx p
images_edit c d (n ∷ ns) own t hx ok f z p =
    let z' : count 0 (kids_of t n) ≡ 0 = omega (arith, count_kid 0 t n ok.0) in
    let f' : Real c (suc d) (length ns) = real_next c d (length ns) f in
    let ih = images_edit c (suc d) ns own (kids_of t n) hx ok.1 f' z' p.1 in
    images_point (edit_images c (suc d) ns own) d n (cond (bare (edit_images c (suc d) ns own) (suc d)) 0 (c.fresh (suc d))) (c.fresh d) ns t (edit c (suc d) ns (kids_of t n)) ok.0 ok.1
    (λ j h. edit_above c (suc d) ns own d j hx ok.1 (omega arith) (omega arith) ∙ p.0 j h) ih
    (rw (edited-bare c (suc d) ns own (kids_of t n) ok.1 f' z' ih, block_cut (edit c (suc d) ns (kids_of t n)), block_edit c (suc d) ns (kids_of t n)))

-- The levels left are the nodes that the way then has.
pub levels_left_lem : (c : RouteEdit) (d : ℕ) (ns : List ℕ) (own : Own) (t : Tree) → c.place < 15 → Nibbles ns → Real c d (length ns) → count 0 t ≡ 0 → Images own d ns t →
    levels_left c d ns own ≡ d + depth ns (edit c d ns t)
unfolding levels_left Images edit depth there kids_of Nibbles
levels_left_lem c d [] own t hx ok f z p = omega arith
levels_left_lem c d (n ∷ ns) own t hx ok f z p =
    let z' : count 0 (kids_of t n) ≡ 0 = omega (arith, count_kid 0 t n ok.0) in
    let f' : Real c (suc d) (length ns) = real_next c d (length ns) f in
    let ih = levels_left_lem c (suc d) ns own (kids_of t n) hx ok.1 f' z' p.1 in
    let b = edited-bare c (suc d) ns own (kids_of t n) ok.1 f' z' (images_edit c (suc d) ns own (kids_of t n) hx ok.1 f' z' p.1) in
    rw (kid_edit c d n ns t, b, depth-cut ns (edit c (suc d) ns (kids_of t n))) (grind (arith, nat_tests))
