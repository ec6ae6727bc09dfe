-- Numbers that are shown are read back.
use Rattle.std.proofs.Common.{◌≡◌, ℕ, zero, suc, ◌*◌, ◌/◌, ◌%◌, ◌^◌, ◌<◌, true, false, cond, eqb, List, [], ◌∷◌, ◌++◌, length, get_or, take, drop, Some, None, Ok, Err, decimal, All, sym, refl, ap, ◌∙◌, pow-suc, arith, lit<}
use Rattle.std.proofs.lemmas.Fmt.{decimal_is_IsNumeral}
use Rattle.std.proofs.lemmas.Int.Digits.{digits_value_push, digits_push}
use Rattle.std.proofs.lemmas.List.Elements.{All-nil, All-cons, All-push, All-append}
use Rattle.std.proofs.lemmas.List.{length_push, length-append, take_at, drop_at, drop-drop, get_or_at}
use Rattle.std.proofs.lemmas.Str.Parse.{digit_from_value}
use Rattle.std.proofs.lemmas.Bool.{lt-ltb, eq-eqb, and_from}
use Rattle.std.proofs.lemmas.Bool.Decides.{nat_tests}
use Rattle.std.specs.Str.Parse.{AllDigits, digits_value}
use Rattle.std.specs.Char.{digit_value, digit_char, is_digit}
use Rattle.std.specs.List.{list_all}
use Rattle.script.specs.declared.expected.Expected.{Expected}
use Rattle.script.specs.declared.expected.Expected.TheVariants as expected
use Rattle.script.specs.Bytes.{all_digits}
use Rattle.script.specs.Keywords.{keyword_of}
use Rattle.script.specs.Lines.{passed}
use Rattle.script.specs.Numbers.{address_of, length_of}
use Rattle.script.specs.Reading.{below, prefixed, prefix_of}
use Rattle.script.specs.Shown.{hexadecimal, shown_prefix}
use Rattle.script.proofs.Back.Plain.{Plain}

-- Each of some digits is one.
each_digit : (r : ℕ) (t : List ℕ) → AllDigits r t → list_all (λ b. is_digit b r) t ≡ true
each_digit r [] h = refl
each_digit r (c ∷ cs) h = and_from _ _ (lt-ltb (digit_value c) r h.0) (each_digit r cs h.1)

some_digits : (r : ℕ) (t : List ℕ) → 0 < length t → AllDigits r t → all_digits r t ≡ true
some_digits r t some h = and_from _ _ (lt-ltb _ _ some) (each_digit r t h)

-- Decimal digits stand behind the comma.
digits_high : (t : List ℕ) → AllDigits 10 t → All (λ b. 44 < b) t
digits_high [] h = All-nil (λ b. 44 < b)
digits_high (c ∷ cs) h = All-cons (λ b. 44 < b) c cs (omega (arith, digit_from_value c h.0)) (digits_high cs h.1)

module _ (n : ℕ) (fits : n < 2 ^ 64) where
  digits : AllDigits 10 (decimal n)
  digits = (decimal_is_IsNumeral n fits).0.1

  some : 0 < length (decimal n)
  some = (decimal_is_IsNumeral n fits).0.0

  pub decimal_plain : Plain (decimal n)
  decimal_plain = record { some = some; high = digits_high (decimal n) digits }

  pub decimal_digits : all_digits 10 (decimal n) ≡ true
  decimal_digits = some_digits 10 (decimal n) some digits

  -- A number below the bound is read back.
  pub decimal_below : (bound : ℕ) (e : Expected) → n < bound → below bound e (decimal n) ≡ Ok n
  decimal_below bound e h = rw (decimal_digits, (decimal_is_IsNumeral n fits).1, lt-ltb n bound h) refl

  -- A number is no keyword, and does not begin a comment.
  pub decimal_other : (keyword_of (decimal n) ≡ None) × (passed (decimal n) ≡ false)
  decimal_other = other (decimal n) some digits
    where
      other : (t : List ℕ) → 0 < length t → AllDigits 10 t → (keyword_of t ≡ None) × (passed t ≡ false)
      other [] h d = absurd (omega arith)
      other (c ∷ cs) h d = let is = digit_from_value c d.0 in (grind (arith, nat_tests), grind (arith, nat_tests))

-- The length of a prefix is read back.
pub length_back : (n : ℕ) → n < 256 → length_of (decimal n) ≡ Some n
length_back n h = rw (decimal_digits n (omega arith), (decimal_is_IsNumeral n (omega arith)).1) (ap Some (omega arith))

pub length-hexadecimal : (k n : ℕ) → length (hexadecimal k n) ≡ k
unfolding hexadecimal
length-hexadecimal zero n = refl
length-hexadecimal (suc k) n = length_push (hexadecimal k (n / 16)) (digit_char (n % 16)) ∙ omega (arith, length-hexadecimal k (n / 16))

-- The character of a hexadecimal digit is that digit.
digit_back : (d : ℕ) → d < 16 → (digit_value (digit_char d) ≡ d) × (44 < digit_char d)
digit_back d h = (grind (arith, nat_tests), grind (arith, nat_tests))

digits_hexadecimal : (k n : ℕ) → AllDigits 16 (hexadecimal k n) × All (λ b. 44 < b) (hexadecimal k n)
unfolding hexadecimal
digits_hexadecimal zero n = (tt, All-nil (λ b. 44 < b))
digits_hexadecimal (suc k) n =
    let back = digit_back (n % 16) (omega arith) in
    let ih = digits_hexadecimal k (n / 16) in
    (digits_push 16 (hexadecimal k (n / 16)) _ ih.0 (omega arith), All-push (λ b. 44 < b) (hexadecimal k (n / 16)) _ ih.1 back.1)

-- Digits of a number that has no more write the number.
value_hexadecimal : (k n : ℕ) → n < 16 ^ k → digits_value 16 (hexadecimal k n) ≡ n
unfolding hexadecimal
value_hexadecimal zero n h = omega arith
value_hexadecimal (suc k) n h =
    let back = digit_back (n % 16) (omega arith) in
    let power : 16 ^ suc k ≡ 16 ^ k * 16 = pow-suc 16 k in
    let ih = value_hexadecimal k (n / 16) (omega arith) in
    digits_value_push 16 (hexadecimal k (n / 16)) (digit_char (n % 16)) ∙ omega arith

pub hexadecimal_plain : (k n : ℕ) → 0 < k → Plain (hexadecimal k n)
hexadecimal_plain k n h = record { some = omega (arith, length-hexadecimal k n); high = (digits_hexadecimal k n).1 }

-- An address is read back.
pub address_back : (a : ℕ) → a < 2 ^ 32 → address_of (hexadecimal 8 a) ≡ Some a
address_back a h =
    let long = length-hexadecimal 8 a in
    rw (some_digits 16 (hexadecimal 8 a) (omega arith) (digits_hexadecimal 8 a).0, eq-eqb _ _ long, value_hexadecimal 8 a h) refl

module _ (bits len : ℕ) (b : bits < 2 ^ 32) (l : len < 256) where
  -- A prefix is one word.
  pub prefix_plain : Plain (shown_prefix bits len)
  prefix_plain = record {
    some = omega (arith, length-append (hexadecimal 8 bits) (47 ∷ decimal len));
    high = All-append (λ b. 44 < b) (hexadecimal 8 bits) (47 ∷ decimal len) (digits_hexadecimal 8 bits).1 (All-cons (λ b. 44 < b) 47 (decimal len) (lit< tt) (decimal_plain len (omega arith)).high);
  }

  -- A prefix is read back.
  pub prefix_back : prefix_of (shown_prefix bits len) ≡ Ok (record { bits = bits; len = len })
  prefix_back =
      let h = hexadecimal 8 bits in
      let t = 47 ∷ decimal len in
      let long = length-hexadecimal 8 bits in
      let slash : get_or (h ++ t) 8 0 ≡ 47 = get_or_at h 47 (decimal len) 0 8 long in
      let front : take 8 (h ++ t) ≡ h = take_at h t 8 long in
      let back : drop 9 (h ++ t) ≡ decimal len = sym (drop-drop 1 8 (h ++ t)) ∙ ap (drop 1) (drop_at h t 8 long) in
      ap (λ x. cond (eqb x 47) (prefixed (address_of (take 8 (h ++ t))) (length_of (drop 9 (h ++ t)))) (Err expected.Prefix)) slash ∙
      ap (λ x. prefixed (address_of x) (length_of (drop 9 (h ++ t)))) front ∙
      ap (λ x. prefixed (address_of h) (length_of x)) back ∙
      ap (λ x. prefixed x (length_of (decimal len))) (address_back bits b) ∙
      ap (λ x. prefixed (Some bits) x) (length_back len l)
