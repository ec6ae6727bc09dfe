-- The number that digits write, one digit after the other.
use Rattle.std.proofs.Common.{◌≡◌, ℕ, ◌+◌, ◌*◌, ◌^◌, ◌<◌, ◌≤◌, true, List, [], ◌∷◌, length, get_or, drop, Some, None, sym, ◌∙◌, inl, inr, mul-le-mul_left, arith}
use Rattle.std.proofs.lemmas.Int.Digits.{digits_value-lt}
use Rattle.std.proofs.lemmas.List.{at_drop_more}
use Rattle.std.proofs.lemmas.Bool.{cases_lt, ltb-true, and_parts}
use Rattle.std.proofs.lemmas.Bool.Decides.{nat_tests}
use Rattle.std.specs.Str.Parse.{AllDigits, digits_value, digits_value_after}
use Rattle.std.specs.Char.{digit_value, is_digit}
use Rattle.std.specs.List.{list_all}
use Rattle.script.specs.Bytes.{all_digits}
use Rattle.script.specs.Numbers.{small}

-- A number of at most 64 bits is itself.
pub small_some : (x m : ℕ) → Some m ≡ small x → (m ≡ x) × (m < 2 ^ 64)
small_some x m e = elim (cases_lt x (2 ^ 64)) [
  | inl h ↦ (let same : m ≡ x = grind (arith, nat_tests) in (same, omega arith))
  | inr h ↦ (let z : ◌≡◌ {A = ℕ} 0 1 = grind (arith, nat_tests) in absurd (omega arith))
]

-- Where it is none it has more.
pub small_none : (x : ℕ) → None ≡ small x → 2 ^ 64 ≤ x
small_none x e = elim (cases_lt x (2 ^ 64)) [
  | inl h ↦ (let z : ◌≡◌ {A = ℕ} 0 1 = grind (arith, nat_tests) in absurd (omega arith))
  | inr h ↦ h
]

-- More digits make no smaller number.
value_after_ge : (r n : ℕ) (ds : List ℕ) → 0 < r → n ≤ digits_value_after r n ds
value_after_ge r n [] h = omega arith
value_after_ge r n (d ∷ ds) h =
    let ih = value_after_ge r (n * r + digit_value d) ds h in
    let one = mul-le-mul_left n h in
    omega arith

-- The number before the digit at i is n. With that digit, d, it has more than 64 bits, and so it has with all digits.
pub reads_none : (r n d : ℕ) (ds : List ℕ) (i : ℕ) → digits_value_after r n (drop i ds) ≡ digits_value r ds → 0 < r → i < length ds → d ≡ digit_value (get_or ds i 0) → None ≡ small (n * r + d) → None ≡ small (digits_value r ds)
reads_none r n d ds i inv pos h e s =
    let large = small_none _ s in
    let here : digits_value_after r (n * r + d) (drop (i + 1) ds) ≡ digits_value r ds = rw e (sym (at_drop_more (digits_value_after r n) ds i 0 h) ∙ inv) in
    let more = value_after_ge r (n * r + d) (drop (i + 1) ds) pos in
    let all : 2 ^ 64 ≤ digits_value r ds = omega arith in
    grind (arith, nat_tests)

-- A text of which each byte is a digit is digits.
pub digits_from_each : (r : ℕ) (t : List ℕ) → list_all (λ b. is_digit b r) t ≡ true → AllDigits r t
digits_from_each r [] e = tt
digits_from_each r (c ∷ cs) e =
    let each = and_parts (is_digit c r) (list_all (λ b. is_digit b r) cs) e in
    (ltb-true _ _ each.0, digits_from_each r cs each.1)

-- Eight hexadecimal digits write a number of 32 bits.
pub address_fits : (t : List ℕ) → all_digits 16 t ≡ true → length t ≡ 8 → digits_value 16 t < 2 ^ 32
address_fits t e l =
    let below = digits_value-lt 16 t (digits_from_each 16 t (and_parts _ _ e).1) in
    rw l at below
