-- Sums over the numbers below n, how often a number stands in a list, and parts of a function as lists.
-- Assumes nothing.
use Rattle.std.specs.Prelude.{ℕ, zero, suc, ◌+◌, Bool, cond, List, [], ◌∷◌, ◌==◌}

-- 1 if it holds
abbrev pub bit : Bool → ℕ
bit b = cond b 1 0

-- 1 if there is something
abbrev pub some : ℕ → ℕ
some w = cond (w == 0) 0 1

-- f 0 + .. + f (n - 1)
unfoldable pub sum : ℕ → (ℕ → ℕ) → ℕ
sum zero f = 0
sum (suc n) f = f n + sum n f

-- how often b stands in a list
unfoldable pub cnt : ℕ → List ℕ → ℕ
cnt b [] = 0
cnt b (x ∷ xs) = bit (b == x) + cnt b xs

-- f i, f (i + 1), .., k of them
unfoldable pub seg : (ℕ → ℕ) → ℕ → ℕ → List ℕ
seg f i zero = []
seg f i (suc k) = f i ∷ seg f (suc i) k
