-- The nibbles of an address.
use Rattle.std.proofs.Common.{◌≡◌, ℕ, zero, suc, ◌+◌, ◌-◌, ◌*◌, ◌/◌, ◌%◌, ◌^◌, ◌<◌, ◌≤◌, true, length, sym, refl, ap, add-zero, add-suc, suc-add, arith, shr-shr}
use lib.Pow.{shl-shr}
use Rattle.std.proofs.lemmas.Bool.{eqb-true}
use Rattle.words.specs.Address.{nib}
use Rattle.words.proofs.Addresses.{nib_small}
use Rattle.routes.specs.Routes.{fits}
use Rattle.routes.specs.Table.Lookups.{masked}
use Rattle.routes.specs.Keys.Keys.{nibs, Nibbles}
use Rattle.routes.proofs.Table.Masks.{masked-fits}

-- Above the last level a nibble is four of the address's bits.
pub nib_is : (d a : ℕ) → d < 8 → nib d a ≡ a / 2 ^ (28 - 4 * d) % 16
unfolding nib
nib_is d a h =
    let s : 32 - 4 * d ≡ 4 + (28 - 4 * d) = omega arith in
    rw (s, ← shr-shr (a * 16) 4 (28 - 4 * d), shl-shr a 4)

-- The bits down to a level are those above it and a nibble more.
pub bits_more : (d b : ℕ) → d < 8 → b / 2 ^ (28 - 4 * d) ≡ 16 * (b / 2 ^ (32 - 4 * d)) + nib d b
bits_more d b h =
    let s : 28 - 4 * d + 4 ≡ 32 - 4 * d = omega arith in
    let e : b / 2 ^ (28 - 4 * d) / 16 ≡ b / 2 ^ (32 - 4 * d) = rw s at (shr-shr b (28 - 4 * d) 4) in
    omega (arith, nib_is d b h)

-- Nibbles of an address are nibbles.
pub nibs_ok : (d k a : ℕ) → Nibbles (nibs d k a)
unfolding Nibbles nibs
nibs_ok d zero a = tt
nibs_ok d (suc k) a = (nib_small d a, nibs_ok (suc d) k a)

-- There are k of them.
pub nibs-length : (d k a : ℕ) → length (nibs d k a) ≡ k
unfolding nibs
nibs-length d zero a = refl
nibs-length d (suc k) a = ap suc (nibs-length (suc d) k a)

-- Equal bits in front are equal bits in front of that.
pub bits_above : (a b k j : ℕ) → a / 2 ^ k ≡ b / 2 ^ k → k ≤ j → a / 2 ^ j ≡ b / 2 ^ j
bits_above a b k j e h = let s : k + (j - k) ≡ j = omega arith in
    rw (← s) (rw (← shr-shr a k (j - k), ← shr-shr b k (j - k)) (ap (λ z. z / 2 ^ (j - k)) e))

-- A prefix that fits an address has the address's nibbles.
pub fits-nib : (len bits a d : ℕ) → fits len bits a ≡ true → 4 * d + 4 ≤ len → len ≤ 32 → nib d bits ≡ nib d a
fits-nib len bits a d f h l =
    let e : a / 2 ^ (32 - len) ≡ bits / 2 ^ (32 - len) = eqb-true _ _ f in
    let p = bits_above bits a (32 - len) (28 - 4 * d) (sym e) (omega arith) in
    rw (nib_is d bits (omega arith), nib_is d a (omega arith), p)

-- So an address's own prefix has the same way, as far as it goes.
pub nibs-masked : (len a d k : ℕ) → 4 * (d + k) ≤ len → len ≤ 32 → nibs d k (masked len a) ≡ nibs d k a
unfolding nibs
nibs-masked len a d zero h l = refl
nibs-masked len a d (suc k) h l =
    let n = fits-nib len (masked len a) a d (masked-fits len a) (omega arith) l in
    let ih = nibs-masked len a (suc d) k (omega arith) l in
    cc

-- Equal nibbles behind equal bits make equal bits.
pub nibs_bits : (k d b c : ℕ) → d + k ≤ 8 → nibs d k b ≡ nibs d k c → b / 2 ^ (32 - 4 * d) ≡ c / 2 ^ (32 - 4 * d) → b / 2 ^ (32 - 4 * (d + k)) ≡ c / 2 ^ (32 - 4 * (d + k))
unfolding nibs
nibs_bits zero d b c h e i = rw (add-zero d) i
nibs_bits (suc k) d b c h e i =
    let n : nib d b ≡ nib d c = cc in
    let t : nibs (suc d) k b ≡ nibs (suc d) k c = cc in
    let s : 32 - 4 * suc d ≡ 28 - 4 * d = omega arith in
    let j : b / 2 ^ (32 - 4 * suc d) ≡ c / 2 ^ (32 - 4 * suc d) = rw s (omega (arith, bits_more d b (omega arith), bits_more d c (omega arith))) in
    rw (add-suc d k, ← suc-add d k) (nibs_bits k (suc d) b c (omega arith) t j)
