-- The pieces of a change.
-- Assumes nothing.
use Rattle.std.specs.Prelude.{ℕ, ◌+◌, ◌-◌, ◌^◌, min, true, false, List, [], ◌∷◌, replicate, Some, None, Ok, Err, Option, Result, ◌==◌, slice_set}
use Rattle.std.specs.List.{slice_split}
use Rattle.routes.specs.declared.Piece.{Piece}
use Rattle.script.specs.declared.expected.Expected.{Expected}
use Rattle.script.specs.declared.expected.Expected.TheVariants as expected
use Rattle.script.specs.declared.keyword.Keyword.{Keyword}
use Rattle.script.specs.declared.keyword.Keyword.TheVariants.{Find, Put, Take, Go, On, Any, Arrive}
use Rattle.script.specs.declared.pieces.Change.{Change}
use Rattle.script.specs.Keywords.{keyword_of}
use Rattle.script.specs.Reading.{◌>>=◌, count_of, prefix_of, end_of}
use Rattle.script.specs.Words.{word, past}

-- the parts of a text between commas
abbrev pub parts : List ℕ → List (List ℕ)
parts t = slice_split (λ b. b == 44) t

-- a piece that puts a route in, after its first word
abbrev pub put_of : List ℕ → Result Piece Expected
put_of t =
    prefix_of (word t) >>= λ p. count_of (word (past t)) >>= λ n. end_of expected.CommaOrEnd (past (past t)) >>= λ _.
    Ok (record { puts = true; len = p.len; bits = p.bits; tells = n })

-- a piece that takes a route out, after its first word
abbrev pub take_of : List ℕ → Result Piece Expected
take_of t =
    prefix_of (word t) >>= λ p. end_of expected.CommaOrEnd (past t) >>= λ _.
    Ok (record { puts = false; len = p.len; bits = p.bits; tells = 0 })

abbrev pub piece_by : Option Keyword → List ℕ → Result Piece Expected
piece_by (Some Put) t = put_of t
piece_by (Some Take) t = take_of t
piece_by (Some Find) t = Err expected.Piece
piece_by (Some Go) t = Err expected.Piece
piece_by (Some On) t = Err expected.Piece
piece_by (Some Any) t = Err expected.Piece
piece_by (Some Arrive) t = Err expected.Piece
piece_by None t = Err expected.Piece

abbrev pub piece_of : List ℕ → Result Piece Expected
piece_of t = piece_by (keyword_of (word t)) (past t)

-- what stands where there is no piece
abbrev pub blank_piece : Piece
blank_piece = record { puts = false; len = 0; bits = 0; tells = 0 }

abbrev pub no_pieces : Change
no_pieces = record { count = 0; pieces = replicate 8 blank_piece }

-- a piece more: all are counted, and the first eight are kept
abbrev pub with_piece : Change → Piece → Change
with_piece c p = record { count = min (c.count + 1) (2 ^ 32 - 1); pieces = slice_set c.pieces c.count p }

unfoldable pub gathered : Change → List (List ℕ) → Result Change Expected
gathered c [] = Ok c
gathered c (t ∷ ts) = piece_of t >>= λ p. gathered (with_piece c p) ts

abbrev pub change_of : List ℕ → Result Change Expected
change_of t = gathered no_pieces (parts t)
