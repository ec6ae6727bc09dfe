-- What a processor is told of a block that it got, as one number.
-- Assumes nothing.
use Rattle.std.specs.Prelude.{ℕ, ◌+◌, Some, None, Option}

abbrev pub reply_of : Option ℕ → ℕ
reply_of (Some b) = b + 1
reply_of None = 0
