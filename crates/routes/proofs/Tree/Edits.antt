-- What an edit does to lookups, blocks, routes and empty nodes.
use Rattle.std.proofs.Common.{◌≡◌, ℕ, suc, ◌+◌, ◌<◌, ◌≤◌, cond, eqb, ◌⊎◌, List, [], ◌∷◌, length, sym, refl, ◌∙◌, inl, inr, arith}
use Rattle.std.proofs.lemmas.Bool.Decides.{eqb_tells}
use Rattle.routes.specs.Counts.Counts.{some, cnt, seg}
use Rattle.routes.specs.Keys.Keys.{same, Nibbles}
use Rattle.routes.specs.Tree.Trees.{Tree, none, node, routes_of, kids_of, block_of, there, look, top, count, path, depth, routes, weight, Kept, Proper}
use Rattle.routes.specs.Tree.Edits.{RouteEdit, cut, edit}
use Rattle.routes.specs.Tree.Laws.{LooksEdited, CountsEdited}
use Rattle.routes.proofs.Basics.Places.{set_at_hit}
use Rattle.routes.proofs.Counts.Sums.{sum-set}
use Rattle.routes.proofs.Counts.Segments.{seg_first, seg_none}
use Rattle.routes.proofs.Tree.Trees.{count_is, routes_is, depth_few, look_none, path_none, depth_none, empty_look, empty_path, empty_count, empty_routes}

-- Either a node is cut, or nothing is done.
pub cut_cases : (t : Tree) → ((weight t ≡ 0) × (cut t ≡ none)) ⊎ ((weight t ≡ 0 → ⊥) × (cut t ≡ t))
unfolding cut
cut_cases t = elim (eqb_tells (weight t) 0) [ inl e ↦ inl (e.1, rw e.0) | inr e ↦ inr (e.1, rw e.0) ]

-- Cutting changes no lookup.
pub look-cut : (ns : List ℕ) (x : ℕ) (t : Tree) → Nibbles ns → x < 15 → look ns x (cut t) ≡ look ns x t
look-cut ns x t ok h = elim (cut_cases t) [
  | inl e ↦ rw e.1 (look_none ns x ∙ sym (empty_look ns x t e.0 ok h))
  | inr e ↦ rw e.1
]

-- After an edit the word is at its key, and all others are as they were.
pub look-edit : LooksEdited
unfolding look edit same routes_of kids_of Nibbles
look-edit c d [] [] x t ok h = refl
look-edit c d [] (m ∷ ms) x t ok h = refl
look-edit c d (n ∷ ns) [] x t ok h = refl
look-edit c d (n ∷ ns) (m ∷ ms) x t ok h = elim (eqb_tells m n) [
  | inl e ↦ rw (e.0, e.1) (look-cut ms x (edit c (suc d) ns (kids_of t n)) ok.1 h ∙ look-edit c (suc d) ns ms x (kids_of t n) ok.1 h)
  | inr e ↦ rw e.0
]

-- The kid on the way is the edited one, cut if it is empty.
pub kid_edit : (c : RouteEdit) (d n : ℕ) (ns : List ℕ) (t : Tree) → kids_of (edit c d (n ∷ ns) t) n ≡ cut (edit c (suc d) ns (kids_of t n))
unfolding edit kids_of
kid_edit c d n ns t = set_at_hit n n (cut (edit c (suc d) ns (kids_of t n))) (kids_of t) refl

-- What is cut leaves the tree and the way.
count_cut : (b : ℕ) (ns : List ℕ) (t : Tree) → Nibbles ns → count b (cut t) + path b ns t ≡ count b t + path b ns (cut t)
unfolding count
count_cut b ns t ok = elim (cut_cases t) [
  | inl e ↦ rw (e.1, path_none b ns, empty_path b ns t e.0 ok, empty_count b t e.0) (omega arith)
  | inr e ↦ rw e.1
]

-- Blocks on the old way go, those on the new way come.
count_way : (b : ℕ) (c : RouteEdit) (d : ℕ) (ns : List ℕ) (t : Tree) → Nibbles ns → count b (edit c d ns t) + path b ns t ≡ count b t + path b ns (edit c d ns t)
unfolding count edit path top Nibbles kids_of
count_way b c d [] t ok = omega (arith, count_is b t)
count_way b c d (n ∷ ns) t ok =
    let u : Tree = edit c (suc d) ns (kids_of t n) in
    rw (kid_edit c d n ns t)
    (omega (arith, count_is b t, count_way b c (suc d) ns (kids_of t n) ok.1, count_cut b ns u ok.1, sum-set (count b) 16 n (cut u) (kids_of t) ok.0))

-- A way that is cut has none of the new blocks.
path-cut : (b d : ℕ) (ns : List ℕ) (fresh : ℕ → ℕ) (t : Tree) → path b ns t ≡ cnt b (seg fresh d (depth ns t)) → path b ns (cut t) ≡ cnt b (seg fresh d (depth ns (cut t)))
unfolding seg cnt
path-cut b d ns fresh t h = elim (cut_cases t) [ inl e ↦ rw (e.1, path_none b ns, depth_none ns) | inr e ↦ rw e.1 h ]

-- The new way has the first of the new blocks.
pub path-edit : (b : ℕ) (c : RouteEdit) (d : ℕ) (ns : List ℕ) (t : Tree) → path b ns (edit c d ns t) ≡ cnt b (seg c.fresh d (depth ns (edit c d ns t)))
unfolding edit path top depth there seg cnt kids_of
path-edit b c d [] t = omega arith
path-edit b c d (n ∷ ns) t = rw (kid_edit c d n ns t, seg_first c.fresh d (depth ns (cut (edit c (suc d) ns (kids_of t n)))))
    (omega (arith, path-cut b (suc d) ns c.fresh (edit c (suc d) ns (kids_of t n)) (path-edit b c (suc d) ns (kids_of t n))))

-- Blocks on the old way go, the first of the new ones come.
pub count-edit : CountsEdited
count-edit c d ns t ok b = omega (arith, count_way b c d ns t ok, path-edit b c d ns t)

-- The first node is the first new one.
pub block_edit : (c : RouteEdit) (d : ℕ) (ns : List ℕ) (t : Tree) → block_of (edit c d ns t) ≡ c.fresh d
unfolding edit block_of
block_edit c d [] t = refl
block_edit c d (n ∷ ns) t = refl

-- A node that is cut has no block.
pub block_cut : (t : Tree) → block_of (cut t) ≡ cond (eqb (weight t) 0) 0 (block_of t)
unfolding cut block_of
block_cut t = elim (eqb_tells (weight t) 0) [ inl e ↦ rw e.0 | inr e ↦ rw e.0 ]

-- And no way.
pub depth-cut : (ns : List ℕ) (t : Tree) → depth ns (cut t) ≡ cond (eqb (weight t) 0) 0 (depth ns t)
unfolding cut
depth-cut ns t = elim (eqb_tells (weight t) 0) [ inl e ↦ rw e.0 (depth_none ns) | inr e ↦ rw e.0 ]

-- Block 0 stays out, if it is none of the new ones.
pub zero_edit : (c : RouteEdit) (d : ℕ) (ns : List ℕ) (t : Tree) → Nibbles ns → ((e : ℕ) → d ≤ e → e ≤ d + length ns → c.fresh e ≡ 0 → ⊥) → count 0 t ≡ 0 → count 0 (edit c d ns t) ≡ 0
zero_edit c d ns t ok f z =
    let l = depth_few ns (edit c d ns t) in
    let s : cnt 0 (seg c.fresh d (depth ns (edit c d ns t))) ≡ 0 = seg_none c.fresh d (depth ns (edit c d ns t)) 0 (λ j m. f (d + j) (omega arith) (omega arith)) in
    omega (arith, count-edit c d ns t ok 0)

-- Cutting takes no route away.
routes-cut : (t : Tree) → routes (cut t) ≡ routes t
unfolding routes
routes-cut t = elim (cut_cases t) [ inl e ↦ rw e.1 (sym (empty_routes t e.0)) | inr e ↦ rw e.1 ]

-- The old route goes if there was one, the new one comes if it is one.
pub routes-edit : (c : RouteEdit) (d : ℕ) (ns : List ℕ) (t : Tree) → Nibbles ns → c.place < 15 → routes (edit c d ns t) + some (look ns c.place t) ≡ routes t + some c.word
unfolding routes edit look Nibbles
routes-edit c d [] t ok h = omega (arith, routes_is t, sum-set (λ w. some w) 15 c.place c.word (routes_of t) h)
routes-edit c d (n ∷ ns) t ok h =
    let u : Tree = edit c (suc d) ns (kids_of t n) in
    omega (arith, routes_is t, routes-edit c (suc d) ns (kids_of t n) ok.1 h, routes-cut u, sum-set routes 16 n (cut u) (kids_of t) ok.0)

-- What is cut if it is empty is not empty.
kept_cut : (t : Tree) → Proper t → Kept (cut t)
unfolding Kept kids_of
kept_cut none p = elim (cut_cases none) [ inl e ↦ rw e.1 tt | inr e ↦ rw e.1 tt ]
kept_cut (node b rs ks) p = elim (cut_cases (node b rs ks)) [ inl e ↦ rw e.1 tt | inr e ↦ rw e.1 (e.0, p) ]

-- If no node is empty, none but the first is.
pub kept_proper : (t : Tree) → Kept t → Proper t
unfolding Kept kids_of
kept_proper none k n h = tt
kept_proper (node b rs ks) k n h = k.1 n h

-- After an edit no node but the first is empty.
pub proper_edit : (c : RouteEdit) (d : ℕ) (ns : List ℕ) (t : Tree) → Nibbles ns → Proper t → Proper (edit c d ns t)
unfolding edit kids_of Nibbles
proper_edit c d [] t ok p m h = p m h
proper_edit c d (n ∷ ns) t ok p m h = elim (eqb_tells m n) [
  | inl e ↦ rw e.0 (kept_cut (edit c (suc d) ns (kids_of t n)) (proper_edit c (suc d) ns (kids_of t n) ok.1 (kept_proper (kids_of t n) (p n ok.0))))
  | inr e ↦ rw e.0 (p m h)
]
