-- Places among the 15 routes of a node.
use Rattle.std.proofs.Common.{◌≡◌, ℕ, ◌+◌, ◌-◌, ◌*◌, ◌/◌, ◌%◌, ◌^◌, ◌<◌, ◌⊎◌, inl, inr, mod-lt, arith, pow_pos, shr-shr}
use lib.Pow.{shl-shr, field}
use Rattle.std.proofs.lemmas.Bool.Decides.{eqb_tells}
use Rattle.words.specs.Address.{nib, place, candidate}
use Rattle.routes.specs.Table.Lookups.{masked}
use Rattle.routes.proofs.Keys.Nibs.{nib_is}

-- 2 ^ x for x below 4.
pub pow_four : (x : ℕ) → x < 4 → ((x ≡ 0) × (2 ^ x ≡ 1)) ⊎ (((x ≡ 1) × (2 ^ x ≡ 2)) ⊎ (((x ≡ 2) × (2 ^ x ≡ 4)) ⊎ ((x ≡ 3) × (2 ^ x ≡ 8))))
pow_four x h = elim (eqb_tells x 0) [
  | inl e ↦ inl (e.1, rw e.1)
  | inr n ↦ elim (eqb_tells x 1) [
    | inl e ↦ inr (inl (e.1, rw e.1))
    | inr m ↦ elim (eqb_tells x 2) [
      | inl e ↦ inr (inr (inl (e.1, rw e.1)))
      | inr k ↦ let e : x ≡ 3 = (let a = n.1 in let b = m.1 in let c = k.1 in grind arith) in inr (inr (inr (e, rw e)))
    ]
  ]
]

-- A rest is below what it is a rest of.
pub rest_below : (p x : ℕ) → p % 2 ^ x < 2 ^ x
rest_below p x = mod-lt p (pow_pos x)

-- Of length 32 there is one place.
pub place_last : (bits : ℕ) → place 32 bits ≡ 0
unfolding place
place_last bits = omega arith

-- A place says how many bits are behind the nibbles, and which.
pub place_apart : (x y p q : ℕ) → x < 4 → y < 4 → (2 ^ x - 1) + p % 2 ^ x ≡ (2 ^ y - 1) + q % 2 ^ y → (x ≡ y) × (p % 2 ^ x ≡ q % 2 ^ y)
place_apart x y p q h k e =
    let a = pow_four x h in let b = pow_four y k in let r = rest_below p x in let s = rest_below q y in
    (grind arith, grind arith)

-- The place of an address's own prefix is that of the candidate at its nibble.
pub place-masked : (e x a : ℕ) → x < 4 → e < 8 → place (4 * e + x) (masked (4 * e + x) a) ≡ candidate x (nib e a)
unfolding place candidate masked
place-masked e x a h l =
    let m : (4 * e + x) % 4 ≡ x = omega arith in
    let four : x + (4 - x) ≡ 4 = omega arith in
    let sum : (28 - 4 * e) + (4 - x) ≡ 32 - (4 * e + x) = omega arith in
    let s = shl-shr (a / 2 ^ (32 - (4 * e + x))) (32 - (4 * e + x)) in
    let f : a / 2 ^ (28 - 4 * e) % 16 / 2 ^ (4 - x) ≡ a / 2 ^ (28 - 4 * e) / 2 ^ (4 - x) % 2 ^ x = rw four at (field (a / 2 ^ (28 - 4 * e)) x (4 - x)) in
    let g : a / 2 ^ (28 - 4 * e) / 2 ^ (4 - x) ≡ a / 2 ^ (32 - (4 * e + x)) = rw sum at (shr-shr a (28 - 4 * e) (4 - x)) in
    rw (m, s, nib_is e a l, f, g)
