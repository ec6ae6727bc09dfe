-- The key of a prefix: the nibbles that lead to its node, and its place among the node's routes.
-- Assumes nothing.
use Rattle.std.specs.Prelude.{◌≡◌, ℕ, zero, suc, ◌+◌, ◌-◌, ◌*◌, ◌/◌, ◌^◌, ◌<◌, ◌≤◌, Bool, true, false, cond, ◌&&◌, List, [], ◌∷◌, length, ◌==◌, nat_lt}
use Rattle.words.specs.Address.{nib}

-- the nibbles of an address from level d on, k of them
unfoldable pub nibs : ℕ → ℕ → ℕ → List ℕ
nibs d zero a = []
nibs d (suc k) a = nib d a ∷ nibs (suc d) k a

-- the way to the node of a prefix
abbrev pub way_of : ℕ → ℕ → List ℕ
way_of len bits = nibs 0 (len / 4) bits

-- are two ways the same
unfoldable pub same : List ℕ → List ℕ → Bool
same [] [] = true
same [] (n ∷ ns) = false
same (m ∷ ms) [] = false
same (m ∷ ms) (n ∷ ns) = m == n && same ms ns

-- each is one of the 16 kids of a node
unfoldable pub Nibbles : List ℕ → Type 0
Nibbles [] = Unit {0}
Nibbles (n ∷ ns) = (n < 16) × Nibbles ns

-- a way of at most 8 nibbles and a place among 15; behind 8 nibbles there is one place
pub record Key (ns : List ℕ) (x : ℕ) : Type 0 where
  pub nibbles : Nibbles ns
  pub levels : length ns ≤ 8
  pub place : x < 15
  pub last : length ns ≡ 8 → x ≡ 0

-- the bits of a way behind the bits n
unfoldable pub bits_behind : ℕ → List ℕ → ℕ
bits_behind n [] = n
bits_behind n (m ∷ ms) = bits_behind (16 * n + m) ms

-- how many bits more than the way's a place has: 0 of place 0, 1 of 1 and 2, 2 of 3 to 6, 3 of 7 to 14
abbrev pub extra_of : ℕ → ℕ
extra_of x = cond (nat_lt x 1) 0 (cond (nat_lt x 3) 1 (cond (nat_lt x 7) 2 3))

-- the length of the prefix of a key
unfoldable pub len_of : List ℕ → ℕ → ℕ
len_of ns x = 4 * length ns + extra_of x

-- and its bits
unfoldable pub bits_of : List ℕ → ℕ → ℕ
bits_of ns x = (bits_behind 0 ns * 2 ^ extra_of x + (x + 1 - 2 ^ extra_of x)) * 2 ^ (32 - len_of ns x)
