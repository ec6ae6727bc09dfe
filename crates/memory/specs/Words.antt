-- The words of the blocks, one block after the other.
-- Assumes nothing.
use Rattle.std.specs.Prelude.{ℕ, ◌+◌, ◌*◌, ◌%◌, cond, List, nat_lt, slice_index}

-- where a word of a block stands
abbrev pub word_at : ℕ → ℕ → ℕ
word_at b w = 48 * b + w

-- what is in a word of a block: 64 bits, and nothing past the 48 words
abbrev pub val_of : List ℕ → ℕ → ℕ → ℕ
val_of ws b w = cond (nat_lt w 48) (slice_index ws (word_at b w) % 18446744073709551616) 0
