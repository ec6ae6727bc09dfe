-- The trail of a walk: the blocks that it touches in memory.
use Rattle.std.proofs.Common.{◌≡◌, ℕ, zero, suc, ◌+◌, ◌<◌, ◌≤◌, eqb, List, [], ◌∷◌, sym, refl, ap, arith}
use Rattle.std.proofs.lemmas.Bool.Decides.{nat_tests as tests}
use Rattle.words.specs.Address.{nib}
use Rattle.words.specs.Slots.{fit_or, fit_below, best_fit, child_of, fit_of}
use Rattle.words.proofs.Addresses.{nib_small}
use Rattle.routes.specs.declared.Answer.{Answer}
use Rattle.routes.specs.declared.Answer.TheVariants.{Nothing}
use Rattle.routes.specs.Counts.Counts.{bit, sum, cnt}
use Rattle.routes.specs.Tree.Trees.{Tree, none, node, kids_of, routes_of, block_of, count, Deep}
use Rattle.routes.specs.Tree.Walks.{better, walk}
use Rattle.routes.specs.Repr.Repr.{Repr, Follow}
use Rattle.routes.specs.Repr.Laws.{WalksFollow}
use Rattle.routes.proofs.Counts.Sums.{sum_at}
use Rattle.routes.proofs.Repr.Nodes.{repr_kid, repr_real, slot_child, slot_fit}

-- Where there is no tree, a walk finds no more.
walk_none : (k d a : ℕ) (best : Answer) → walk k d a none best ≡ best
unfolding walk kids_of routes_of fit_below fit_or
walk_none zero d a best = refl
walk_none (suc k) d a best = walk_none k (suc d) a best

-- A trail of one more node is in the tree with it.
trail_more : (b c n : ℕ) (trail : List ℕ) (ks : ℕ → Tree) → n < 16 → (1 ≤ cnt b trail → 1 ≤ count b (ks n)) → 1 ≤ bit (eqb b c) + cnt b trail → 1 ≤ bit (eqb b c) + sum 16 (λ i. count b (ks i))
trail_more b c n trail ks l f i = let z = sum_at 16 n (λ i. count b (ks i)) l in grind (arith, tests)

-- From any level on, a walk of a tree that stands touches its blocks only.
pub follow_tree : (val : ℕ → ℕ → ℕ) (k d a : ℕ) (best : Answer) (t : Tree) → k + d ≡ 9 → Deep k t → Repr val t →
    (trail : List ℕ) × Follow val a d (block_of t) best trail (walk k d a t best) × ((b : ℕ) → 1 ≤ cnt b trail → 1 ≤ count b t)
unfolding Follow Deep walk count cnt block_of kids_of routes_of
follow_tree val k d a best none e h r = ([], (refl, sym (walk_none k d a best)), λ b i. i)
follow_tree val zero d a best (node c rs ks) e h r = absurd h
follow_tree val (suc k) d a best (node c rs ks) e h r =
    let s = nib_small d a in
    let real : c ≡ 0 → ⊥ = repr_real val c rs ks r in
    let f = follow_tree val k (suc d) a (better d (best_fit rs (nib d a)) best) (ks (nib d a)) (omega arith) (h (nib d a) s) (repr_kid val (node c rs ks) (nib d a) s r) in (
      c ∷ f.0,
      (refl, real, omega arith, rw (slot_child val (node c rs ks) (nib d a) s r real, slot_fit val (node c rs ks) (nib d a) s r real) f.1),
      λ b i. trail_more b c (nib d a) f.0 ks s (f.2 b) i,
    )

-- In memory a walk touches blocks of the tree only, and tells what it tells of the tree.
pub follow_walk : WalksFollow
follow_walk val a t h r = follow_tree val 9 0 a Nothing t (omega arith) h r

-- A trail stays as long as the slots of its blocks do.
pub follow_stays : (u v : ℕ → ℕ → ℕ) (a d b : ℕ) (best : Answer) (trail : List ℕ) (told : Answer) → ((c i : ℕ) → 1 ≤ cnt c trail → i < 16 → v c i ≡ u c i) →
    Follow u a d b best trail told → Follow v a d b best trail told
unfolding Follow cnt
follow_stays u v a d b best [] told s f = f
follow_stays u v a d b best (c ∷ cs) told s f =
    let here : v c (nib d a) ≡ u c (nib d a) = s c (nib d a) (grind (arith, tests)) (nib_small d a) in
    (f.0, f.1, f.2, rw here (follow_stays u v a (suc d) (child_of (u c (nib d a))) (better d (fit_of (u c (nib d a))) best) cs told (λ k i l m. s k i (omega arith) m) f.3))

-- The trail of a walk at a node begins with the node, and goes on with its slot.
pub follow_node : (val : ℕ → ℕ → ℕ) (a d b : ℕ) (best : Answer) (trail : List ℕ) (told : Answer) → (b ≡ 0 → ⊥) → Follow val a d b best trail told →
    (cs : List ℕ) × (trail ≡ b ∷ cs) × (d < 9) × Follow val a (suc d) (child_of (val b (nib d a))) (better d (fit_of (val b (nib d a))) best) cs told
unfolding Follow
follow_node val a d b best [] told z f = absurd (z f.0)
follow_node val a d b best (c ∷ cs) told z f = (cs, ap (λ x. x ∷ cs) (sym f.0), f.2, rw f.0 f.3)

-- At its end a walk tells what was best.
pub follow_end : (val : ℕ → ℕ → ℕ) (a d : ℕ) (best : Answer) (trail : List ℕ) (told : Answer) → Follow val a d 0 best trail told → (trail ≡ []) × (best ≡ told)
unfolding Follow
follow_end val a d best [] told f = (refl, f.1)
follow_end val a d best (c ∷ cs) told f = absurd (f.1 refl)
