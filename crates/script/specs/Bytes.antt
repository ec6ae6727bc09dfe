-- What single bytes are.
-- Assumes nothing.
use Rattle.std.specs.Prelude.{ℕ, Bool, not, ◌&&◌, ◌||◌, List, length, ◌==◌, nat_lt}
use Rattle.std.specs.Char.{is_digit}
use Rattle.std.specs.List.{list_all}

-- a space or a tab
abbrev pub blank : ℕ → Bool
blank b = b == 32 || b == 9

-- what may stand in a word of several bytes
abbrev pub letter : ℕ → Bool
letter b = not (blank b || b == 44)

-- one byte or more, and all are digits
abbrev pub all_digits : ℕ → List ℕ → Bool
all_digits radix t = nat_lt 0 (length t) && list_all (λ b. is_digit b radix) t
