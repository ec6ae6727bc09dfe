-- Each key is that of a clean prefix.
use Rattle.std.proofs.Common.{◌≡◌, ℕ, suc, ◌+◌, ◌-◌, ◌*◌, ◌/◌, ◌%◌, ◌^◌, ◌<◌, ◌≤◌, List, [], ◌∷◌, length, sym, refl, ap, ◌∙◌, subst, add-zero, zero-add, arith, shr-shr}
use lib.Pow.{shl-shr, split, high, low}
use Rattle.std.proofs.lemmas.Bool.Decides.{nat_tests}
use Rattle.words.specs.Address.{nib, place}
use Rattle.words.proofs.Addresses.{nib_small}
use Rattle.routes.specs.Table.Tables.{Clean}
use Rattle.routes.specs.Keys.Keys.{nibs, Nibbles, Key, bits_behind, extra_of, len_of, bits_of}
use Rattle.routes.specs.Keys.Laws.{KeyPrefix}
use Rattle.routes.proofs.Keys.Nibs.{bits_more}
use Rattle.routes.proofs.Keys.Place.{pow_four}

-- Bits that are made of nibbles have those nibbles, and in front of them what was there.
nibs_back : (ns : List ℕ) (d n b : ℕ) → Nibbles ns → d + length ns ≤ 8 → b / 2 ^ (32 - 4 * (d + length ns)) ≡ bits_behind n ns → (nibs d (length ns) b ≡ ns) × (b / 2 ^ (32 - 4 * d) ≡ n)
unfolding nibs Nibbles bits_behind
nibs_back [] d n b ok h e = (refl, rw (add-zero d) at e)
nibs_back (m ∷ ms) d n b ok h e =
    let q : d + suc (length ms) ≡ suc d + length ms = omega arith in
    let s : 32 - 4 * suc d ≡ 28 - 4 * d = omega arith in
    let ih = nibs_back ms (suc d) (16 * n + m) b ok.1 (omega arith) (rw q at e) in
    let f : b / 2 ^ (28 - 4 * d) ≡ 16 * n + m = rw s at ih.1 in
    let small = ok.0 in
    let k = nib_small d b in
    let g = bits_more d b (omega arith) in
    let i : nib d b ≡ m = omega arith in
    (rw i (ap (λ z. m ∷ z) ih.0), omega arith)

-- A place is behind the places of fewer bits.
extra_place : (x : ℕ) → x < 15 → (extra_of x < 4) × (2 ^ extra_of x ≤ x + 1) × (x + 1 - 2 ^ extra_of x < 2 ^ extra_of x)
extra_place x h =
    let e : extra_of x < 4 = grind (arith, nat_tests) in
    let p = pow_four (extra_of x) e in
    (e, grind (arith, nat_tests), grind (arith, nat_tests))

module _ (ns : List ℕ) (x : ℕ) (k : Key ns x) where
  -- the bits of the way and those of the place behind them
  abbrev front : ℕ
  front = bits_behind 0 ns * 2 ^ extra_of x + (x + 1 - 2 ^ extra_of x)

  -- The length is at most 32.
  key_short : len_of ns x ≤ 32
  unfolding len_of
  key_short = let l = k.levels in let z = k.last in let p = (extra_place x k.place).0 in grind (arith, nat_tests)

  -- It says how many nibbles there are, and how many bits behind them.
  key_parts : (len_of ns x / 4 ≡ length ns) × (len_of ns x % 4 ≡ extra_of x)
  unfolding len_of
  key_parts = let p = (extra_place x k.place).0 in (omega arith, omega arith)

  -- Without the noughts behind them, the bits are those.
  key_front : bits_of ns x / 2 ^ (32 - len_of ns x) ≡ front
  unfolding bits_of
  key_front = shl-shr front (32 - len_of ns x)

  -- Without those of the place too, they are the way's.
  key_way : bits_of ns x / 2 ^ (32 - 4 * length ns) ≡ bits_behind 0 ns
  unfolding len_of
  key_way =
      let s = key_short in
      let q : 32 - len_of ns x + extra_of x ≡ 32 - 4 * length ns = omega arith in
      subst (λ z. bits_of ns x / 2 ^ z ≡ bits_behind 0 ns) q
      (sym (shr-shr (bits_of ns x) (32 - len_of ns x) (extra_of x)) ∙ ap (λ z. z / 2 ^ extra_of x) key_front ∙ high (bits_behind 0 ns) (extra_of x) (extra_place x k.place).2)

  -- So the way is the key's, and nothing is in front of it.
  key_nibs : (nibs 0 (length ns) (bits_of ns x) ≡ ns) × (bits_of ns x / 2 ^ 32 ≡ 0)
  key_nibs = nibs_back ns 0 0 (bits_of ns x) k.nibbles (omega (arith, k.levels)) (ap (λ z. bits_of ns x / 2 ^ (32 - 4 * z)) (zero-add (length ns)) ∙ key_way)

  -- The place is the key's.
  key_place : place (len_of ns x) (bits_of ns x) ≡ x
  unfolding place
  key_place =
      let p = extra_place x k.place in
      rw (key_parts.1, key_front, low (bits_behind 0 ns) (extra_of x) p.2) (omega arith)

  -- And it is clean.
  key_clean : Clean (len_of ns x) (bits_of ns x)
  unfolding bits_of
  key_clean = record { short = key_short; small = (let z = key_nibs.1 in omega arith); rest = omega (arith, split (bits_of ns x) (32 - len_of ns x), ap (λ z. z * 2 ^ (32 - len_of ns x)) key_front) }

-- Each key is that of a clean prefix.
pub key_prefix : KeyPrefix
key_prefix ns x k = (key_clean ns x k, ap (λ z. nibs 0 z (bits_of ns x)) (key_parts ns x k).0 ∙ (key_nibs ns x k).0, key_place ns x k)
