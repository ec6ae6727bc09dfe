-- Slots and route words are found within a node.
use Rattle.std.proofs.Common.{◌≡◌, ℕ, ◌+◌, ◌-◌, ◌/◌, ◌%◌, ◌^◌, ◌<◌, ◌≤◌, arith, pow_mono}
use Rattle.std.proofs.lemmas.Nat.{pow_pos, mod_below, shr_below}
use Rattle.words.specs.Address.{nib, place, candidate}

-- An extra length has at most eight values of its bits.
pub width_small : (x : ℕ) → x < 4 → 2 ^ x ≤ 8
width_small x h = let k : x ≤ 3 = omega arith in pow_mono {i = x} {j = 3} k

-- Four bits are below 16.
pub nib_small : (d a : ℕ) → nib d a < 16
unfolding nib
nib_small d a = omega arith

-- A route's word is one of 15.
pub place_small : (len bits : ℕ) → place len bits < 15
unfolding place
place_small len bits =
    omega (arith, pow_pos (len % 4), width_small (len % 4) (omega arith), mod_below (bits / 2 ^ (32 - len)) (2 ^ (len % 4)) (pow_pos (len % 4)))

-- The word of a route that could fit a slot is one of 15.
pub candidate_small : (x n : ℕ) → x < 4 → n < 16 → candidate x n < 15
unfolding candidate
candidate_small x n h k =
    let e : x + (4 - x) ≡ 4 = omega arith in
    let within : n < 2 ^ (x + (4 - x)) = rw e k in
    omega (arith, pow_pos x, width_small x h, shr_below n x (4 - x) within)
