-- The words of a line.
-- Assumes nothing.
use Rattle.std.specs.Prelude.{ℕ, cond, List, take, drop, ◌==◌, slice_index}
use Rattle.std.specs.List.{prefix_len}
use Rattle.script.specs.Bytes.{blank, letter}

-- a text without the blanks in front
abbrev pub started : List ℕ → List ℕ
started t = drop (prefix_len blank t) t

-- how long the word is that a text begins with: a comma is a word by itself
abbrev pub extent : List ℕ → ℕ
extent t = cond (slice_index t 0 == 44) 1 (prefix_len letter t)

-- the first word of a text; an empty one where there is none
unfoldable pub word : List ℕ → List ℕ
word t = take (extent (started t)) (started t)

-- what follows the first word
unfoldable pub past : List ℕ → List ℕ
past t = drop (extent (started t)) (started t)
