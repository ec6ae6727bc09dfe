-- Trees of nodes. A node has a block, 15 route words and 16 kids.
-- Assumes nothing.
use Rattle.std.specs.Prelude.{ℕ, zero, suc, ◌+◌, ◌<◌, List, [], ◌∷◌, ◌==◌, ◌≢◌}
use Rattle.routes.specs.Counts.Counts.{bit, some, sum}

-- none where there is no node
pub data Tree : Type 0 where
  none : Tree
  node : (block : ℕ) (routes : ℕ → ℕ) (kids : ℕ → Tree) → Tree

-- the route words of the first node
unfoldable pub routes_of : Tree → ℕ → ℕ
routes_of none x = 0
routes_of (node b rs ks) x = rs x

-- its kids
unfoldable pub kids_of : Tree → ℕ → Tree
kids_of none n = none
kids_of (node b rs ks) n = ks n

-- its block, or 0
unfoldable pub block_of : Tree → ℕ
block_of none = 0
block_of (node b rs ks) = b

-- 1 if there is a node
unfoldable pub there : Tree → ℕ
there none = 0
there (node b rs ks) = 1

-- the route word of a way and a place
unfoldable pub look : List ℕ → ℕ → Tree → ℕ
look [] x t = routes_of t x
look (n ∷ ns) x t = look ns x (kids_of t n)

-- how often a block is the first node's
unfoldable pub top : ℕ → Tree → ℕ
top b none = 0
top b (node c rs ks) = bit (b == c)

-- how often it is a node's
unfoldable pub count : ℕ → Tree → ℕ
count b none = 0
count b (node c rs ks) = bit (b == c) + sum 16 (λ n. count b (ks n))

-- how often it is a node's on a way
unfoldable pub path : ℕ → List ℕ → Tree → ℕ
path b [] t = top b t
path b (n ∷ ns) t = top b t + path b ns (kids_of t n)

-- how many nodes there are on a way
unfoldable pub depth : List ℕ → Tree → ℕ
depth [] t = there t
depth (n ∷ ns) t = there t + depth ns (kids_of t n)

-- how many nodes there are
unfoldable pub nodes : Tree → ℕ
nodes none = 0
nodes (node b rs ks) = 1 + sum 16 (λ n. nodes (ks n))

-- how many routes there are
unfoldable pub routes : Tree → ℕ
routes none = 0
routes (node b rs ks) = sum 15 (λ x. some (rs x)) + sum 16 (λ n. routes (ks n))

-- how many routes and kids the first node has
unfoldable pub weight : Tree → ℕ
weight t = sum 15 (λ x. some (routes_of t x)) + sum 16 (λ n. there (kids_of t n))

-- no node is empty
unfoldable pub Kept : Tree → Type 0
Kept none = Unit {0}
Kept (node b rs ks) = (weight (node b rs ks) ≢ 0) × ((n : ℕ) → n < 16 → Kept (ks n))

-- no node is empty but perhaps the first
abbrev pub Proper : Tree → Type 0
Proper t = (n : ℕ) → n < 16 → Kept (kids_of t n)

-- there are at most k levels
unfoldable pub Deep : ℕ → Tree → Type 0
Deep k none = Unit {0}
Deep zero (node b rs ks) = ⊥
Deep (suc k) (node b rs ks) = (n : ℕ) → n < 16 → Deep k (ks n)
