-- How deep trees are, and how many nodes they have.
use Rattle.std.proofs.Common.{ℕ, zero, suc, ◌+◌, ◌*◌, ◌<◌, ◌≤◌, eqb, List, [], ◌∷◌, length, refl, inl, inr, arith}
use Rattle.std.proofs.lemmas.Bool.Decides.{eqb_tells}
use Rattle.routes.specs.Counts.Counts.{bit, sum, cnt}
use Rattle.routes.specs.Tree.Trees.{Tree, none, node, routes_of, kids_of, there, count, nodes, routes, weight, Kept, Deep}
use Rattle.routes.specs.Tree.Edits.{RouteEdit, cut, edit}
use Rattle.routes.specs.Tree.Laws.{FewNodes}
use Rattle.routes.proofs.Counts.Sums.{sum_le, sum_plus, sum_times, sum_zero, sum_swap, sum_hit}
use Rattle.routes.proofs.Counts.Lists.{sum_each, sum-cnt}
use Rattle.routes.proofs.Tree.Edits.{cut_cases}

-- No tree has no levels.
pub deep_none : (k : ℕ) → Deep k none
unfolding Deep
deep_none zero = tt
deep_none (suc k) = tt

-- Kids have a level less.
pub deep_kid : (k : ℕ) (t : Tree) (n : ℕ) → n < 16 → Deep (suc k) t → Deep k (kids_of t n)
unfolding Deep kids_of
deep_kid k none n h d = deep_none k
deep_kid k (node b rs ks) n h d = d n h

-- Cutting makes no tree deeper.
deep_cut : (k : ℕ) (t : Tree) → Deep k t → Deep k (cut t)
deep_cut k t d = elim (cut_cases t) [ inl e ↦ rw e.1 (deep_none k) | inr e ↦ rw e.1 d ]

-- Nor does an edit, beyond its way.
pub deep_edit : (c : RouteEdit) (d k : ℕ) (ns : List ℕ) (t : Tree) → length ns ≤ k → Deep (suc k) t → Deep (suc k) (edit c d ns t)
unfolding Deep edit
deep_edit c d k [] t h p = λ n l. deep_kid k t n l p
deep_edit c d zero (m ∷ ns) t h p = absurd (omega arith)
deep_edit c d (suc k) (m ∷ ns) t h p = λ n l. elim (eqb_tells n m) [
  | inl e ↦ rw e.0 (deep_cut (suc k) (edit c (suc d) ns (kids_of t m)) (deep_edit c (suc d) k ns (kids_of t m) (omega arith) (deep_kid (suc k) t m (omega (arith, e.1)) p)))
  | inr e ↦ rw e.0 (deep_kid (suc k) t n l p)
]

-- Where no node is empty, each tree has a route.
pub kept_fed : (t : Tree) → Kept t → there t ≤ routes t
unfolding Kept there routes weight routes_of kids_of
kept_fed none k = omega arith
kept_fed (node b rs ks) k = omega (arith, k.0, sum_le 16 (λ n. there (ks n)) (λ n. routes (ks n)) (λ n h. kept_fed (ks n) (k.1 n h)))

-- So it has at most as many nodes for each route as levels.
pub nodes_kept : (k : ℕ) (t : Tree) → Deep k t → Kept t → nodes t ≤ k * routes t
unfolding nodes Deep Kept routes there
nodes_kept k none l f = omega arith
nodes_kept zero (node b rs ks) l f = absurd l
nodes_kept (suc k) (node b rs ks) l f =
    let ih : (n : ℕ) → n < 16 → nodes (ks n) ≤ k * routes (ks n) = λ n h. nodes_kept k (ks n) (l n h) (f.1 n h) in
    omega (arith, sum_le 16 _ _ ih, sum_times 16 k (λ n. routes (ks n)), kept_fed (node b rs ks) f)

-- If no node but the first is empty, there are at most 8 for each route, and the first.
pub nodes_few : FewNodes
unfolding nodes Deep routes kids_of
nodes_few none d p = omega arith
nodes_few (node b rs ks) d p =
    let each : (n : ℕ) → n < 16 → nodes (ks n) ≤ 8 * routes (ks n) = λ n h. nodes_kept 8 (ks n) (d n h) (p n h) in
    omega (arith, sum_le 16 _ _ each, sum_times 16 8 (λ n. routes (ks n)))

-- Counts of all blocks together are at most the nodes.
pub sum-count : (n : ℕ) (t : Tree) → sum n (λ b. count b t) ≤ nodes t
unfolding count nodes
sum-count n none = omega (arith, sum_zero n (λ b. 0) (λ b l. refl))
sum-count n (node c rs ks) =
    omega (
      arith,
      sum_plus n (λ b. bit (eqb b c)) (λ b. sum 16 (λ k. count b (ks k))),
      sum_hit n c,
      sum_swap n 16 (λ b k. count b (ks k)),
      sum_le 16 (λ k. sum n (λ b. count b (ks k))) (λ k. nodes (ks k)) (λ k h. sum-count n (ks k)),
    )

-- If each of n blocks is block 0, a node's or in a list, there are no more than those.
pub blocks_few : (n : ℕ) (t : Tree) (xs : List ℕ) → ((b : ℕ) → b < n → 1 ≤ bit (eqb b 0) + count b t + cnt b xs) → n ≤ 1 + nodes t + length xs
blocks_few n t xs h =
    omega (
      arith,
      sum_each n (λ b. bit (eqb b 0) + count b t + cnt b xs) h,
      sum_plus n (λ b. bit (eqb b 0) + count b t) (λ b. cnt b xs),
      sum_plus n (λ b. bit (eqb b 0)) (λ b. count b t),
      sum_hit n 0,
      sum-count n t,
      sum-cnt n xs,
    )
