-- Trees: their first node apart, and nodes that are empty.
use Rattle.std.proofs.Common.{◌≡◌, ℕ, ◌+◌, ◌<◌, ◌≤◌, eqb, List, [], ◌∷◌, length, refl, arith}
use Rattle.std.proofs.lemmas.Bool.Decides.{nat_tests}
use Rattle.routes.specs.Counts.Counts.{bit, some, sum}
use Rattle.routes.specs.Keys.Keys.{Nibbles}
use Rattle.routes.specs.Tree.Trees.{Tree, none, node, routes_of, kids_of, block_of, there, look, top, count, path, depth, routes, weight}
use Rattle.routes.proofs.Counts.Sums.{sum_at, sum_zero}

-- A tree's blocks are its first node's and its kids'.
pub count_is : (b : ℕ) (t : Tree) → count b t ≡ top b t + sum 16 (λ n. count b (kids_of t n))
unfolding count top kids_of sum
count_is b none = refl
count_is b (node c rs ks) = refl

-- A tree's routes are its first node's and its kids'.
pub routes_is : (t : Tree) → routes t ≡ sum 15 (λ x. some (routes_of t x)) + sum 16 (λ n. routes (kids_of t n))
unfolding routes routes_of kids_of sum
routes_is none = refl
routes_is (node c rs ks) = refl

-- A kid's blocks are the tree's.
pub count_kid : (b : ℕ) (t : Tree) (n : ℕ) → n < 16 → count b (kids_of t n) ≤ count b t
count_kid b t n h = omega (arith, count_is b t, sum_at 16 n (λ n. count b (kids_of t n)) h)

-- The first node's block is counted.
pub count_block : (t : Tree) → (block_of t ≡ 0 → ⊥) → 1 ≤ count (block_of t) t
unfolding count block_of
count_block none z = absurd (z refl)
count_block (node c rs ks) z = grind (arith, nat_tests)

-- Where there is no node, there is no tree.
pub not_there : (t : Tree) → there t ≡ 0 → t ≡ none
unfolding there
not_there none e = refl
not_there (node b rs ks) e = absurd (omega arith)

-- There is at most one first node.
pub there_one : (t : Tree) → there t ≤ 1
unfolding there
there_one none = omega arith
there_one (node b rs ks) = omega arith

-- A node is there if its block is not 0.
pub there_block : (t : Tree) → count 0 t ≡ 0 → some (block_of t) ≡ there t
unfolding there block_of count
there_block none z = refl
there_block (node b rs ks) z = grind (arith, nat_tests)

-- A node's block is the first one.
pub top_is : (b : ℕ) (t : Tree) → (block_of t ≡ 0 → ⊥) → top b t ≡ bit (eqb b (block_of t))
unfolding top block_of
top_is b none z = absurd (z refl)
top_is b (node c rs ks) z = refl

-- A way has at most one node for each level.
pub depth_few : (ns : List ℕ) (t : Tree) → depth ns t ≤ 1 + length ns
unfolding depth
depth_few [] t = there_one t
depth_few (n ∷ ns) t = omega (arith, there_one t, depth_few ns (kids_of t n))

-- Where there is no tree, nothing is looked up.
pub look_none : (ns : List ℕ) (x : ℕ) → look ns x none ≡ 0
unfolding look routes_of kids_of
look_none [] x = refl
look_none (n ∷ ns) x = look_none ns x

-- No way has a block there.
pub path_none : (b : ℕ) (ns : List ℕ) → path b ns none ≡ 0
unfolding path top kids_of
path_none b [] = refl
path_none b (n ∷ ns) = omega (arith, path_none b ns)

-- And no node.
pub depth_none : (ns : List ℕ) → depth ns none ≡ 0
unfolding depth there kids_of
depth_none [] = refl
depth_none (n ∷ ns) = omega (arith, depth_none ns)

-- An empty node has no route.
pub empty_route : (t : Tree) (x : ℕ) → weight t ≡ 0 → x < 15 → routes_of t x ≡ 0
unfolding weight
empty_route t x e h = let a = sum_at 15 x (λ x. some (routes_of t x)) h in grind (arith, nat_tests)

-- And no kid.
pub empty_kid : (t : Tree) (n : ℕ) → weight t ≡ 0 → n < 16 → kids_of t n ≡ none
unfolding weight
empty_kid t n e h = let a = sum_at 16 n (λ n. there (kids_of t n)) h in not_there (kids_of t n) (omega arith)

-- So nothing is looked up in it.
pub empty_look : (ns : List ℕ) (x : ℕ) (t : Tree) → weight t ≡ 0 → Nibbles ns → x < 15 → look ns x t ≡ 0
unfolding look Nibbles
empty_look [] x t e ok h = empty_route t x e h
empty_look (n ∷ ns) x t e ok h = rw (empty_kid t n e ok.0) (look_none ns x)

-- Each way in it ends at once.
pub empty_path : (b : ℕ) (ns : List ℕ) (t : Tree) → weight t ≡ 0 → Nibbles ns → path b ns t ≡ top b t
unfolding path Nibbles
empty_path b [] t e ok = refl
empty_path b (n ∷ ns) t e ok = rw (empty_kid t n e ok.0, path_none b ns) (omega arith)

-- Its block is its only one.
pub empty_count : (b : ℕ) (t : Tree) → weight t ≡ 0 → count b t ≡ top b t
unfolding count
empty_count b t e = omega (arith, count_is b t, sum_zero 16 (λ n. count b (kids_of t n)) (λ n h. rw (empty_kid t n e h)))

-- And it has no routes.
pub empty_routes : (t : Tree) → weight t ≡ 0 → routes t ≡ 0
unfolding weight routes
empty_routes t e = omega (arith, routes_is t, sum_zero 16 (λ n. routes (kids_of t n)) (λ n h. rw (empty_kid t n e h)))
