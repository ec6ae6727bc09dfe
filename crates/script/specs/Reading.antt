-- Reading one thing after another, and the single words that commands are made of.
-- Assumes nothing.
use Rattle.std.specs.Prelude.{◌≡◌, ℕ, ◌^◌, Bool, true, false, cond, ◌&&◌, List, length, take, drop, Some, None, Ok, Err, Option, Result, ◌==◌, nat_lt, slice_index, refl}
use Rattle.std.proofs.lemmas.Bool.{ltb-true}
use Rattle.std.specs.Option.{ok_or}
use Rattle.std.specs.Str.Parse.{digits_value}
use Rattle.script.specs.declared.expected.Expected.{Expected}
use Rattle.script.specs.declared.expected.Expected.TheVariants as expected
use Rattle.script.specs.declared.processor.Processor.{Processor}
use Rattle.script.specs.declared.reading.Prefix.{Prefix}
use Rattle.script.specs.Bytes.{all_digits}
use Rattle.script.specs.Numbers.{address_of, length_of}
use Rattle.script.specs.Words.{word}

infixr 20 ◌>>=◌
-- what follows, if this was read
abbrev pub ◌>>=◌ : {A B : Type 0} → Result A Expected → (A → Result B Expected) → Result B Expected
◌>>=◌ (Ok a) f = f a
◌>>=◌ (Err e) f = Err e

-- a decimal number below a bound
abbrev pub below : ℕ → Expected → List ℕ → Result ℕ Expected
below bound e w = cond (all_digits 10 w && nat_lt (digits_value 10 w) bound) (Ok (digits_value 10 w)) (Err e)

abbrev pub numbered_by : (cpus n : ℕ) (b : Bool) → nat_lt n cpus ≡ b → Option (Processor cpus)
numbered_by cpus n true e = Some (record { number = n; there = ltb-true n cpus e })
numbered_by cpus n false e = None

-- the processor of that number, if there are more
abbrev pub numbered : (cpus : ℕ) → ℕ → Option (Processor cpus)
numbered cpus n = numbered_by cpus n (nat_lt n cpus) refl

-- a processor: there are cpus, and the type allows most
unfoldable pub processor_of : (most cpus : ℕ) → List ℕ → Result (Processor most) Expected
processor_of most cpus w = cond (all_digits 10 w && nat_lt (digits_value 10 w) cpus) (ok_or (numbered most (digits_value 10 w)) (expected.Processor cpus)) (Err (expected.Processor cpus))

-- what is told, or how many turns or stores
abbrev pub count_of : List ℕ → Result ℕ Expected
count_of w = below (2 ^ 32) expected.Count w

abbrev pub seed_of : List ℕ → Result ℕ Expected
seed_of w = below (2 ^ 64) expected.Seed w

abbrev pub prefixed : Option ℕ → Option ℕ → Result Prefix Expected
prefixed (Some a) (Some n) = Ok (record { bits = a; len = n })
prefixed (Some a) None = Err expected.Prefix
prefixed None n = Err expected.Prefix

-- a prefix: an address, a slash and a length
abbrev pub prefix_of : List ℕ → Result Prefix Expected
prefix_of w = cond (slice_index w 8 == 47) (prefixed (address_of (take 8 w)) (length_of (drop 9 w))) (Err expected.Prefix)

-- no word is left; else this was expected
abbrev pub end_of : Expected → List ℕ → Result (Unit {0}) Expected
end_of e t = cond (length (word t) == 0) (Ok tt) (Err e)
