-- Numbers, decimal and hexadecimal.
-- Assumes nothing.
use Rattle.std.specs.Prelude.{ℕ, ◌^◌, min, cond, ◌&&◌, List, length, Some, None, Ok, Err, Option, Result, ◌==◌, nat_lt}
use Rattle.std.specs.Str.Parse.{digits_value}
use Rattle.script.specs.declared.numbers.Misread.{Misread}
use Rattle.script.specs.declared.numbers.Misread.TheVariants.{NotDigits, TooLarge}
use Rattle.script.specs.Bytes.{all_digits}

-- a number of at most 64 bits
abbrev pub small : ℕ → Option ℕ
small n = cond (nat_lt n (2 ^ 64)) (Some n) None

-- a decimal number
abbrev pub decimal_of : List ℕ → Result ℕ Misread
decimal_of w = cond (all_digits 10 w) (cond (nat_lt (digits_value 10 w) (2 ^ 64)) (Ok (digits_value 10 w)) (Err TooLarge)) (Err NotDigits)

-- an address: eight hexadecimal digits
abbrev pub address_of : List ℕ → Option ℕ
address_of w = cond (all_digits 16 w && length w == 8) (Some (digits_value 16 w)) None

-- the length of a prefix: a decimal number, however large, of which 255 stands for all that are larger
abbrev pub length_of : List ℕ → Option ℕ
length_of w = cond (all_digits 10 w) (Some (min (digits_value 10 w) 255)) None
