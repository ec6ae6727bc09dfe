-- Once the images of a way are laid in the new blocks, the edited tree stands in memory.
use Rattle.std.proofs.Common.{◌≡◌, ℕ, suc, ◌+◌, ◌^◌, ◌<◌, ◌≤◌, List, [], ◌∷◌, sym, ◌∙◌, subst, inl, inr, arith}
use Rattle.std.proofs.lemmas.Bool.Decides.{eqb_tells}
use Rattle.words.specs.Slots.{best_fit, slot_word, child_of}
use Rattle.words.proofs.Packing.{child_same, best_same}
use Rattle.own.specs.Layout.{image_at}
use Rattle.own.proofs.Imaged.{packed_slot, packed_route}
use Rattle.routes.specs.Keys.Keys.{Nibbles}
use Rattle.routes.specs.Tree.Trees.{Tree, none, node, routes_of, kids_of, block_of, there, depth}
use Rattle.routes.specs.Tree.Edits.{RouteEdit, cut, edit}
use Rattle.routes.specs.Repr.Repr.{Repr}
use Rattle.routes.specs.Repr.Images.{Own, image_of, Image, Images, Laid}
use Rattle.routes.specs.Repr.Laws.{NodesWritten}
use Rattle.routes.proofs.Tree.Edits.{cut_cases, kid_edit}
use Rattle.routes.proofs.Repr.Nodes.{repr_kid, repr_block}
use Rattle.routes.proofs.Repr.Images.{image_kid, image_route}

-- what hangs beside a way stands
unfoldable Beside : (ℕ → ℕ → ℕ) → List ℕ → Tree → Type 0
Beside val [] t = (m : ℕ) → m < 16 → Repr val (kids_of t m)
Beside val (n ∷ ns) t = ((m : ℕ) → m < 16 → (m ≡ n → ⊥) → Repr val (kids_of t m)) × Beside val ns (kids_of t n)

-- In a tree that stands it does.
repr_beside : (val : ℕ → ℕ → ℕ) (ns : List ℕ) (t : Tree) → Nibbles ns → Repr val t → Beside val ns t
unfolding Beside Nibbles
repr_beside val [] t ok r = λ m h. repr_kid val t m h r
repr_beside val (n ∷ ns) t ok r = ((λ m h e. repr_kid val t m h r), repr_beside val ns (kids_of t n) ok.1 (repr_kid val t n ok.0 r))

-- Cutting keeps it.
beside_cut : (val : ℕ → ℕ → ℕ) (ns : List ℕ) (t : Tree) → Nibbles ns → Beside val ns t → Beside val ns (cut t)
unfolding Repr
beside_cut val ns t ok o = elim (cut_cases t) [ inl e ↦ rw e.1 (repr_beside val ns none ok tt) | inr e ↦ rw e.1 o ]

-- An edit keeps it: it changes nothing beside its way.
beside_edit : (val : ℕ → ℕ → ℕ) (c : RouteEdit) (d : ℕ) (ns : List ℕ) (t : Tree) → Nibbles ns → Beside val ns t → Beside val ns (edit c d ns t)
unfolding Beside edit kids_of Nibbles
beside_edit val c d [] t ok o = o
beside_edit val c d (n ∷ ns) t ok o = (
  (λ m h e. elim (eqb_tells m n) [ inl i ↦ absurd (e i.1) | inr i ↦ rw i.0 (o.0 m h e) ]),
  subst (λ z. Beside val ns z) (sym (kid_edit c d n ns t)) (beside_cut val ns (edit c (suc d) ns (kids_of t n)) ok.1 (beside_edit val c (suc d) ns (kids_of t n) ok.1 o.1)),
)

-- a tree's first node, if there is one, is laid in its block
unfoldable LaidAt : (ℕ → ℕ → ℕ) → Own → ℕ → Tree → Type 0
LaidAt val own d none = Unit {0}
LaidAt val own d (node b rs ks) = Laid val own d b

-- so are the nodes on a way
unfoldable LaidAll : (ℕ → ℕ → ℕ) → Own → ℕ → List ℕ → Tree → Type 0
LaidAll val own d [] t = LaidAt val own d t
LaidAll val own d (n ∷ ns) t = LaidAt val own d t × LaidAll val own (suc d) ns (kids_of t n)

-- Where there is no tree, there is nothing to lay.
laid_none : (val : ℕ → ℕ → ℕ) (own : Own) (d : ℕ) (ns : List ℕ) → LaidAll val own d ns none
unfolding LaidAll LaidAt kids_of
laid_none val own d [] = tt
laid_none val own d (n ∷ ns) = (tt, laid_none val own (suc d) ns)

-- The way of an edited tree has the new blocks.
laid_edit : (val : ℕ → ℕ → ℕ) (own : Own) (c : RouteEdit) (d : ℕ) (ns : List ℕ) (t : Tree) →
    ((e : ℕ) → d ≤ e → e < d + depth ns (edit c d ns t) → Laid val own e (c.fresh e)) → LaidAll val own d ns (edit c d ns t)
unfolding LaidAll LaidAt edit depth there kids_of
laid_edit val own c d [] t h = h d (omega arith) (omega arith)
laid_edit val own c d (n ∷ ns) t h = (
  h d (omega arith) (omega arith),
  subst (λ z. LaidAll val own (suc d) ns z) (sym (kid_edit c d n ns t))
      (elim (cut_cases (edit c (suc d) ns (kids_of t n))) [
        | inl e ↦ rw e.1 (laid_none val own (suc d) ns)
        | inr e ↦ rw e.1 (laid_edit val own c (suc d) ns (kids_of t n) (λ f a b. h f (omega arith) (rw (kid_edit c d n ns t, e.1) (omega arith))))
      ]),
)

-- What is packed of a node's image are its slots.
slot_stands : (im : ℕ → ℕ) (t : Tree) (n : ℕ) → n < 16 → ((i : ℕ) → i < 31 → im i ≡ image_of t i) → block_of (kids_of t n) < 2 ^ 20 →
    slot_word (child_of (im n)) (best_fit (λ x. im (16 + x)) n) ≡ slot_word (block_of (kids_of t n)) (best_fit (routes_of t) n)
slot_stands im t n h p l =
    rw (p n (omega arith) ∙ image_kid t n h, child_same (block_of (kids_of t n)) l, best_same (λ x. im (16 + x)) (routes_of t) n h (λ x k. p (16 + x) (omega arith) ∙ image_route t x))

-- A laid node stands over kids that stand.
node_stands : (val : ℕ → ℕ → ℕ) (own : Own) (d : ℕ) (t : Tree) → Image own d t → LaidAt val own d t → ((n : ℕ) → n < 16 → Repr val (kids_of t n)) → Repr val t
unfolding LaidAt Repr kids_of routes_of
node_stands val own d none p l k = tt
node_stands val own d (node b rs ks) p l k =
    let im : ℕ → ℕ = λ j. own (image_at d j) in (
      record {
        real = l.real;
        small = l.small;
        slots = λ n h. l.words n (omega arith) ∙ packed_slot im n h ∙ slot_stands im (node b rs ks) n h p (repr_block val (ks n) (k n h));
        words = λ x h. l.words (16 + x) (omega arith) ∙ packed_route im x ∙ p (16 + x) (omega arith) ∙ image_route (node b rs ks) x;
      },
      k,
    )

-- A way of laid nodes stands with what hangs beside it.
laid_stands : (val : ℕ → ℕ → ℕ) (own : Own) (d : ℕ) (ns : List ℕ) (t : Tree) → Images own d ns t → Beside val ns t → LaidAll val own d ns t → Repr val t
unfolding Images Beside LaidAll
laid_stands val own d [] t p o l = node_stands val own d t p l o
laid_stands val own d (n ∷ ns) t p o l =
    let ih = laid_stands val own (suc d) ns (kids_of t n) p.1 o.1 l.1 in
    node_stands val own d t p.0 l.0 (λ m h. elim (eqb_tells m n) [ inl e ↦ rw e.1 ih | inr e ↦ o.0 m h e.1 ])

-- Once its images are laid in the new blocks, an edited tree stands.
pub written : NodesWritten
written val own c d ns t ok r p l = laid_stands val own d ns (edit c d ns t) p (beside_edit val c d ns t ok (repr_beside val ns t ok r)) (laid_edit val own c d ns t l)
