-- The pieces of a change among the own words, and what the earlier of them decide.
-- Assumes nothing.
use Rattle.std.specs.Prelude.{◌≡◌, ℕ, suc, Bool, true, false, List, [], ◌∷◌}
use Rattle.own.specs.declared.piece.PieceWords.{PieceWords}
use Rattle.own.specs.declared.piece.Earlier.{Earlier}
use Rattle.own.specs.declared.piece.Earlier.TheVariants.{Never, Put, Taken}
use Rattle.own.specs.Pieces.{piece_of}
use Rattle.routes.specs.declared.Piece.{Piece}
use Rattle.routes.specs.Repr.Images.{Own}

-- the words of a piece
abbrev pub words_for : Piece → PieceWords
words_for p = record { puts = p.puts; len = p.len; bits = p.bits; tells = p.tells }

-- pieces stand among the own words from number k on
unfoldable pub Noted : Own → ℕ → List Piece → Type 0
Noted own k [] = Unit {0}
Noted own k (p ∷ ps) = (piece_of own k ≡ words_for p) × Noted own (suc k) ps

-- is a route there, by what was done last with it, or else as before
unfoldable pub there_after : Earlier → Bool → Bool
there_after Never before = before
there_after Put before = true
there_after Taken before = false
