-- Which words of a node an address and a route have.
-- Assumes nothing.
use Rattle.std.specs.Prelude.{ℕ, ◌+◌, ◌-◌, ◌*◌, ◌/◌, ◌%◌, ◌^◌}

-- the four bits of an address by which level d decides; 0 at level 8, behind the last bit
unfoldable pub nib : ℕ → ℕ → ℕ
nib d a = (a * 16 / 2 ^ (32 - 4 * d)) % 16

-- where among the 15 route words of its node the route of a length and bits stands
unfoldable pub place : ℕ → ℕ → ℕ
place len bits = 2 ^ (len % 4) - 1 + bits / 2 ^ (32 - len) % 2 ^ (len % 4)

-- where the route of extra length x stands that fits slot n
unfoldable pub candidate : ℕ → ℕ → ℕ
candidate x n = 2 ^ x - 1 + n / 2 ^ (4 - x)
