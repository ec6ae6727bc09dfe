-- How often a number stands in a list, and how long the list then is.
use Rattle.std.proofs.Common.{◌≡◌, ℕ, ◌+◌, ◌<◌, ◌≤◌, eqb, List, [], ◌∷◌, ◌++◌, length, refl, arith}
use Rattle.routes.specs.Counts.Counts.{bit, sum, cnt}
use Rattle.routes.specs.Counts.Laws.{Pigeonhole}
use Rattle.routes.proofs.Counts.Sums.{sum_le, sum_plus, sum_zero, sum_ones, sum_hit}

-- Two lists, one behind the other.
pub cnt-++ : (b : ℕ) (xs ys : List ℕ) → cnt b (xs ++ ys) ≡ cnt b xs + cnt b ys
unfolding cnt
cnt-++ b [] ys = omega arith
cnt-++ b (x ∷ xs) ys = omega (arith, cnt-++ b xs ys)

-- All counts together are at most the length.
pub sum-cnt : (n : ℕ) (xs : List ℕ) → sum n (λ b. cnt b xs) ≤ length xs
unfolding cnt
sum-cnt n [] = omega (arith, sum_zero n (λ b. 0) (λ i l. refl))
sum-cnt n (x ∷ xs) = omega (arith, sum_plus n (λ b. bit (eqb b x)) (λ b. cnt b xs), sum_hit n x, sum-cnt n xs)

-- What is at least 1 at each of n places is at least n in sum.
pub sum_each : (n : ℕ) (f : ℕ → ℕ) → ((b : ℕ) → b < n → 1 ≤ f b) → n ≤ sum n f
sum_each n f h = omega (arith, sum_ones n, sum_le n (λ b. 1) f h)

-- A list that has each of n numbers is at least n long.
pub pigeonhole : Pigeonhole
pigeonhole n xs h = omega (arith, sum_each n (λ b. cnt b xs) h, sum-cnt n xs)
