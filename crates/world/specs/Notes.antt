-- What an event says, in words of 64 bits: the pieces of a change, and what is told.
-- Assumes nothing.
use Rattle.std.specs.Prelude.{ℕ, zero, suc, ◌+◌, ◌*◌, ◌/◌, ◌%◌, cond, List, [], ◌∷◌, ◌==◌}
use Rattle.routes.specs.declared.Answer.{Answer}
use Rattle.routes.specs.declared.Answer.TheVariants.{Found, Nothing, Done, Full, No}
use Rattle.routes.specs.declared.Piece.{Piece}

-- a piece in two words
abbrev pub first_word : Piece → ℕ
first_word p = cond p.puts 1 0 + 2 * p.len

abbrev pub second_word : Piece → ℕ
second_word p = p.bits + 4294967296 * p.tells

abbrev pub piece_of : ℕ → ℕ → Piece
piece_of x y = record { puts = (x % 2 == 1); len = x / 2; bits = y % 4294967296; tells = y / 4294967296 }

-- so many pieces on top of words, and the words below them
unfoldable pub read_pieces : ℕ → List ℕ → List Piece
read_pieces zero ws = []
read_pieces (suc n) [] = []
read_pieces (suc n) (x ∷ []) = []
read_pieces (suc n) (x ∷ y ∷ ws) = piece_of x y ∷ read_pieces n ws

unfoldable pub skip_pieces : ℕ → List ℕ → List ℕ
skip_pieces zero ws = ws
skip_pieces (suc n) [] = []
skip_pieces (suc n) (x ∷ []) = []
skip_pieces (suc n) (x ∷ y ∷ ws) = skip_pieces n ws

-- what is told, as a word
abbrev pub told_word : Answer → ℕ
told_word Nothing = 0
told_word Done = 1
told_word Full = 2
told_word (Found len tells) = 3 + 8 * len + 2048 * tells
told_word (No why) = 4 + 8 * why

abbrev pub told_of : ℕ → Answer
told_of x =
    cond (x % 8 == 3) (Found (x / 8 % 256) (x / 2048))
    (cond (x % 8 == 4) (No (x / 8))
    (cond (x % 8 == 1) Done
    (cond (x % 8 == 2) Full Nothing)))
