-- The processor that a number is.
use Rattle.std.proofs.Common.{◌≡◌, ℕ, ◌^◌, ◌<◌, ◌≤◌, Bool, true, false, ltb, List, Some, None, Ok, Err, refl, sym, ◌∙◌, subst, inl, inr, arith}
use Rattle.std.proofs.lemmas.Bool.{cases_Bool, cases_lt, ltb-true, lt-ltb, le-ltb, false≢true}
use Rattle.std.proofs.lemmas.Bool.Decides.{nat_tests}
use Rattle.std.proofs.Props.{props}
use Rattle.std.specs.Option.{ok_or}
use Rattle.std.specs.Str.Parse.{digits_value}
use Rattle.script.specs.declared.expected.Expected.TheVariants as expected
use Rattle.script.specs.declared.numbers.Misread.{Misread}
use Rattle.script.specs.declared.processor.Processor.{Processor}
use Rattle.script.specs.Bytes.{all_digits}
use Rattle.script.specs.Numbers.{decimal_of}
use Rattle.script.specs.Reading.{numbered_by, numbered, processor_of}

module _ (cpus : ℕ) where
  there_by : (p : Processor cpus) (b : Bool) (e : ltb p.number cpus ≡ b) → numbered_by cpus p.number b e ≡ Some p
  there_by p true e =
      let same : (x y : p.number < cpus) → x ≡ y = Prim.hlevel props in
      λ i. Some (record { number = p.number; there = same (ltb-true p.number cpus e) p.there i })
  there_by p false e = absurd (false≢true (sym e ∙ lt-ltb p.number cpus p.there))

  -- A processor has its number.
  pub numbered_is : (p : Processor cpus) (n : ℕ) → p.number ≡ n → numbered cpus n ≡ Some p
  numbered_is p n h =
      let P : ℕ → Type 0 = λ k. (b : Bool) (e : ltb k cpus ≡ b) → numbered_by cpus k b e ≡ Some p in
      subst P h (there_by p) (ltb n cpus) refl

  nobody_by : (n : ℕ) (b : Bool) (e : ltb n cpus ≡ b) → cpus ≤ n → numbered_by cpus n b e ≡ None
  nobody_by n true e h = absurd (let l = ltb-true n cpus e in omega arith)
  nobody_by n false e h = refl

  -- From their count on no number is one.
  pub numbered_none : (n : ℕ) → cpus ≤ n → numbered cpus n ≡ None
  numbered_none n h = nobody_by n (ltb n cpus) refl h

-- there are so many, and the type says that there are at most so many
module _ (most cpus : ℕ) where
  -- A number that is read is a processor's, if there are more and it is one's.
  pub processor_read : (w : List ℕ) (n : ℕ) → Ok n ≡ decimal_of w → n < cpus → processor_of most cpus w ≡ ok_or (numbered most n) (expected.Processor cpus)
  unfolding processor_of
  processor_read w n e below = elim (cases_Bool (all_digits 10 w)) [
    | inl d ↦ (let is : n ≡ digits_value 10 w = grind (arith, nat_tests) in rw (d, ← is, lt-ltb n cpus below) refl)
    | inr d ↦ absurd (let z : ◌≡◌ {A = ℕ} 0 1 = grind (arith, nat_tests) in omega arith)
  ]

  -- A number that is none of theirs is no processor.
  pub processor_over : (w : List ℕ) (n : ℕ) → Ok n ≡ decimal_of w → cpus ≤ n → processor_of most cpus w ≡ Err (expected.Processor cpus)
  unfolding processor_of
  processor_over w n e over = elim (cases_Bool (all_digits 10 w)) [
    | inl d ↦ (let is : n ≡ digits_value 10 w = grind (arith, nat_tests) in rw (d, ← is, le-ltb n cpus over) refl)
    | inr d ↦ rw d refl
  ]

  -- Where none is read there is no processor.
  pub processor_unread : (w : List ℕ) (m : Misread) → cpus < 2 ^ 64 → Err m ≡ decimal_of w → processor_of most cpus w ≡ Err (expected.Processor cpus)
  unfolding processor_of
  processor_unread w m few e = elim (cases_Bool (all_digits 10 w)) [
    | inl d ↦ elim (cases_lt (digits_value 10 w) (2 ^ 64)) [
      | inl l ↦ absurd (let z : ◌≡◌ {A = ℕ} 0 1 = grind (arith, nat_tests) in omega arith)
      | inr l ↦ rw (d, le-ltb (digits_value 10 w) cpus (omega arith)) refl
    ]
    | inr d ↦ rw d refl
  ]
