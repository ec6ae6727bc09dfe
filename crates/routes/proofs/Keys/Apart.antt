-- No two clean prefixes have the same key.
use Rattle.std.proofs.Common.{◌≡◌, ℕ, ◌+◌, ◌-◌, ◌*◌, ◌/◌, ◌%◌, ◌^◌, true, ◌&&◌, eqb, List, [], ◌∷◌, length, sym, refl, ap, ◌∙◌, subst, inl, inr, zero-add, arith, shr-shr}
use lib.Pow.{split}
use Rattle.std.proofs.lemmas.Bool.Decides.{nat_tests}
use Rattle.std.proofs.lemmas.Bool.{cases_Bool, and_parts, eqb-true, eq-eqb}
use Rattle.words.specs.Address.{place}
use Rattle.words.proofs.Addresses.{place_small}
use Rattle.routes.specs.Table.Tables.{Clean}
use Rattle.routes.specs.Keys.Keys.{way_of, same}
use Rattle.routes.specs.Keys.Laws.{PrefixKey, KeysApart}
use Rattle.routes.proofs.Keys.Nibs.{nibs_ok, nibs-length, nibs_bits}
use Rattle.routes.proofs.Keys.Place.{place_last, place_apart}

-- Ways that are the same are equal.
pub same_eq : (xs ys : List ℕ) → same xs ys ≡ true → xs ≡ ys
unfolding same
same_eq [] [] e = refl
same_eq [] (y ∷ ys) e = cc
same_eq (x ∷ xs) [] e = cc
same_eq (x ∷ xs) (y ∷ ys) e =
    let p = and_parts (eqb x y) (same xs ys) e in
    let a = eqb-true x y p.0 in let b = same_eq xs ys p.1 in cc

-- And equal ones are the same.
pub same_self : (xs : List ℕ) → same xs xs ≡ true
unfolding same
same_self [] = refl
same_self (x ∷ xs) = rw (eq-eqb x x refl) (same_self xs)

-- Clean bits are those in front of the last nibble and those behind it.
bits_same : (l b c : ℕ) → Clean l b → Clean l c → way_of l b ≡ way_of l c → b / 2 ^ (32 - l) % 2 ^ (l % 4) ≡ c / 2 ^ (32 - l) % 2 ^ (l % 4) → b ≡ c
bits_same l b c u v e r =
    let us = u.short in let ub = u.small in let vb = v.small in
    let ur = u.rest in let vr = v.rest in
    let z : b / 2 ^ 32 ≡ c / 2 ^ 32 = omega arith in
    let hi : b / 2 ^ (32 - 4 * (l / 4)) ≡ c / 2 ^ (32 - 4 * (l / 4)) = rw (zero-add (l / 4)) at (nibs_bits (l / 4) 0 b c (omega arith) e z) in
    let s : 32 - l + l % 4 ≡ 32 - 4 * (l / 4) = omega arith in
    let hb : b / 2 ^ (32 - l) / 2 ^ (l % 4) ≡ b / 2 ^ (32 - 4 * (l / 4)) = rw s at (shr-shr b (32 - l) (l % 4)) in
    let hc : c / 2 ^ (32 - l) / 2 ^ (l % 4) ≡ c / 2 ^ (32 - 4 * (l / 4)) = rw s at (shr-shr c (32 - l) (l % 4)) in
    let whole : b / 2 ^ (32 - l) ≡ c / 2 ^ (32 - l) =
    omega (arith, split (b / 2 ^ (32 - l)) (l % 4), split (c / 2 ^ (32 - l)) (l % 4), ap (λ z. z * 2 ^ (l % 4)) (hb ∙ hi ∙ sym hc), r) in
    omega (arith, split b (32 - l), split c (32 - l), ap (λ z. z * 2 ^ (32 - l)) whole)

-- Prefixes of one key are one.
pub key_apart : (l b m c : ℕ) → Clean l b → Clean m c → way_of l b ≡ way_of m c → place l b ≡ place m c → (l ≡ m) × (b ≡ c)
unfolding place
key_apart l b m c u v e f =
    let p = place_apart (l % 4) (m % 4) (b / 2 ^ (32 - l)) (c / 2 ^ (32 - m)) (omega arith) (omega arith) f in
    let k : l / 4 ≡ m / 4 = sym (nibs-length 0 (l / 4) b) ∙ ap length e ∙ nibs-length 0 (m / 4) c in
    let q : m ≡ l = omega (arith, p.0) in (
      sym q,
      bits_same l b c u (subst (λ z. Clean z c) q v) (subst (λ z. way_of l b ≡ way_of z c) q e)
          (subst (λ z. b / 2 ^ (32 - l) % 2 ^ (l % 4) ≡ c / 2 ^ (32 - z) % 2 ^ (z % 4)) q p.1),
    )

-- The same as a test.
pub keys_apart : KeysApart
keys_apart l b m c u v = elim (cases_Bool (same (way_of l b) (way_of m c) && eqb (place l b) (place m c))) [
  | inl e ↦ (let p = and_parts (same (way_of l b) (way_of m c)) (eqb (place l b) (place m c)) e in
      let i = key_apart l b m c u v (same_eq (way_of l b) (way_of m c) p.0) (eqb-true (place l b) (place m c) p.1) in
      rw e (let x = i.0 in let y = i.1 in grind (arith, nat_tests)))
  | inr e ↦ elim (cases_Bool (eqb l m && eqb b c)) [
    | inl f ↦ (let p = and_parts (eqb l m) (eqb b c) f in
        rw (eqb-true l m p.0, eqb-true b c p.1, same_self (way_of m c), eq-eqb (place m c) (place m c) refl, eq-eqb m m refl, eq-eqb c c refl))
    | inr f ↦ rw (e, f)
  ]
]

-- Each clean prefix has a key.
pub prefix_key : PrefixKey
prefix_key len bits c =
    let n = nibs-length 0 (len / 4) bits in let s = c.short in
    record {
      nibbles = nibs_ok 0 (len / 4) bits;
      levels = omega arith;
      place = place_small len bits;
      last = λ e. (let q : len ≡ 32 = omega arith in ap (λ z. place z bits) q ∙ place_last bits);
    }
