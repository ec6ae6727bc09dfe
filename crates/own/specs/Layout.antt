-- Where things stand among a processor's own words, and these words as a function.
-- Assumes nothing.
use Rattle.std.specs.Prelude.{ℕ, ◌+◌, ◌*◌, cond, List, ◌==◌, slice_index}

-- word i of piece k
abbrev pub piece_at : ℕ → ℕ → ℕ
piece_at k i = 4 * k + i

-- word i of the image of level d
abbrev pub image_at : ℕ → ℕ → ℕ
image_at d i = 32 + 32 * d + i

-- the block that was got as number i
abbrev pub fresh_at : ℕ → ℕ
fresh_at i = 320 + i

-- the block that is retired as number i
abbrev pub retired_at : ℕ → ℕ
retired_at i = 392 + i

-- own words as a function
abbrev pub words_of : List ℕ → ℕ → ℕ
words_of o i = slice_index o i

-- a function with another value at one place
abbrev pub put : ℕ → ℕ → (ℕ → ℕ) → ℕ → ℕ
put i x f j = cond (j == i) x (f j)
