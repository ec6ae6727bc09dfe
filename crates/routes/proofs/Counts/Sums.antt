-- Sums over the numbers below n.
use Rattle.std.proofs.Common.{◌≡◌, ℕ, zero, suc, ◌+◌, ◌*◌, ◌<◌, ◌≤◌, eqb, sym, refl, inl, inr, add-suc, arith}
use Rattle.std.proofs.lemmas.Bool.Decides.{nat_tests, eqb_tells}
use Rattle.routes.specs.Memory.{set_at}
use Rattle.routes.specs.Counts.Counts.{bit, sum}

-- Sums of equal terms are equal.
pub sum_same : (n : ℕ) (f g : ℕ → ℕ) → ((i : ℕ) → i < n → f i ≡ g i) → sum n f ≡ sum n g
unfolding sum
sum_same zero f g h = refl
sum_same (suc n) f g h =
    let ih : sum n f ≡ sum n g = sum_same n f g (λ i l. h i (omega arith)) in
    omega (arith, h n (omega arith))

-- Sums of smaller terms are smaller.
pub sum_le : (n : ℕ) (f g : ℕ → ℕ) → ((i : ℕ) → i < n → f i ≤ g i) → sum n f ≤ sum n g
unfolding sum
sum_le zero f g h = omega arith
sum_le (suc n) f g h =
    let ih : sum n f ≤ sum n g = sum_le n f g (λ i l. h i (omega arith)) in
    omega (arith, h n (omega arith))

-- A sum of sums.
pub sum_plus : (n : ℕ) (f g : ℕ → ℕ) → sum n (λ i. f i + g i) ≡ sum n f + sum n g
unfolding sum
sum_plus zero f g = refl
sum_plus (suc n) f g = omega (arith, sum_plus n f g)

-- A sum of multiples.
pub sum_times : (n k : ℕ) (f : ℕ → ℕ) → sum n (λ i. k * f i) ≡ k * sum n f
unfolding sum
sum_times zero k f = omega arith
sum_times (suc n) k f = omega (arith, sum_times n k f)

-- A sum of nothing is nothing.
pub sum_zero : (n : ℕ) (f : ℕ → ℕ) → ((i : ℕ) → i < n → f i ≡ 0) → sum n f ≡ 0
unfolding sum
sum_zero zero f h = refl
sum_zero (suc n) f h = let ih : sum n f ≡ 0 = sum_zero n f (λ i l. h i (omega arith)) in omega (arith, h n (omega arith))

-- A sum of sums, the other way round.
pub sum_swap : (n m : ℕ) (f : ℕ → ℕ → ℕ) → sum n (λ i. sum m (f i)) ≡ sum m (λ j. sum n (λ i. f i j))
unfolding sum
sum_swap zero m f = sym (sum_zero m (λ j. 0) (λ j l. refl))
sum_swap (suc n) m f = omega (arith, sum_swap n m f, sum_plus m (f n) (λ j. sum n (λ i. f i j)))

-- A sum of ones counts.
pub sum_ones : (n : ℕ) → sum n (λ i. 1) ≡ n
unfolding sum
sum_ones zero = refl
sum_ones (suc n) = omega (arith, sum_ones n)

-- A term is at most the sum.
pub sum_at : (n k : ℕ) (f : ℕ → ℕ) → k < n → f k ≤ sum n f
unfolding sum
sum_at zero k f h = omega arith
sum_at (suc n) k f h = grind (arith, nat_tests, sum_at n k f)

-- A sum in two parts.
pub sum_split : (m n : ℕ) (f : ℕ → ℕ) → sum (m + n) f ≡ sum n (λ i. f (m + i)) + sum m f
unfolding sum
sum_split m zero f = let q : m + 0 ≡ m = omega arith in rw q (omega arith)
sum_split m (suc n) f = rw (add-suc m n) (omega (arith, sum_split m n f))

-- A number is at most one of those below n.
pub sum_hit : (n x : ℕ) → sum n (λ b. bit (eqb b x)) ≤ 1
unfolding sum
sum_hit zero x = omega arith
sum_hit (suc n) x = elim (eqb_tells n x) [
  | inl e ↦ let miss = sum_zero n (λ b. bit (eqb b x)) (λ i l. grind (arith, nat_tests)) in grind arith
  | inr e ↦ let ih = sum_hit n x in grind arith
]

-- One place of a family changed beyond the sum: nothing of it is seen.
pub sum-set_above : {A : Type 0} (F : A → ℕ) (n k : ℕ) (y : A) (f : ℕ → A) → n ≤ k → sum n (λ i. F (set_at k y f i)) ≡ sum n (λ i. F (f i))
unfolding sum
sum-set_above F zero k y f h = refl
sum-set_above F (suc n) k y f h =
    let ih : sum n (λ i. F (set_at k y f i)) ≡ sum n (λ i. F (f i)) = sum-set_above F n k y f (omega arith) in
    grind (arith, nat_tests)

-- One place of a family changed: its old term goes, its new one comes.
pub sum-set : {A : Type 0} (F : A → ℕ) (n k : ℕ) (y : A) (f : ℕ → A) → k < n → sum n (λ i. F (set_at k y f i)) + F (f k) ≡ sum n (λ i. F (f i)) + F y
unfolding sum
sum-set F zero k y f h = omega arith
sum-set F (suc n) k y f h = elim (eqb_tells n k) [
  | inl e ↦ let above = sum-set_above F n k y f (omega arith) in grind arith
  | inr e ↦ let ih = sum-set F n k y f (omega arith) in grind arith
]
