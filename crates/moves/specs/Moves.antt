-- Moves in words of 64 bits.
-- Assumes nothing.
use Rattle.std.specs.Prelude.{◌≡◌, ℕ, ◌+◌, ◌*◌, ◌/◌, ◌%◌, ◌<◌, ◌≤◌, false, cond, ◌&&◌, List, length, Some, None, Option, ◌==◌, nat_le, nat_lt, slice_index}
use Rattle.routes.specs.declared.Piece.{Piece}
use Rattle.world.specs.Notes.{piece_of}
use Rattle.moves.specs.declared.listed.Listed.{Listed}
use Rattle.moves.specs.declared.listed.Listed.TheVariants.{Go, Arrive, Find, Change}

-- of a change the first eight pieces are listed
abbrev pub kept_of : ℕ → ℕ
kept_of n = cond (nat_le n 8) n 8

-- what a first word says: kind, processor and number
abbrev pub head_of : ℕ → ℕ → Option Listed
head_of cpus w =
    cond (nat_le cpus (w / 16 % 16)) None
    (cond (w % 16 == 0) (Some (Go (w / 16 % 16) (w / 256)))
    (cond (w % 16 == 1) (Some (Arrive (w / 16 % 16) (w / 256)))
    (cond (w % 16 == 2 && nat_lt (w / 256) 4294967296) (Some (Find (w / 16 % 16) (w / 256)))
    (cond (w % 16 == 3 && nat_lt (w / 256) 4294967296) (Some (Change (w / 16 % 16) (w / 256))) None))))

-- so many pieces stand in words from a place on, each with a length below 256
pub record PiecesFit (n : ℕ) (ws : List ℕ) (at : ℕ) : Type 0 where
  pub long : at + 2 * n ≤ length ws
  pub low : (k : ℕ) → k < n → slice_index ws (at + 2 * k) < 512

-- how many pieces a move has in words
abbrev pub body_of : Listed → ℕ
body_of (Go p n) = 0
body_of (Arrive p n) = 0
body_of (Find p a) = 0
body_of (Change p n) = kept_of n

-- how many words it takes
abbrev pub width_of : Listed → ℕ
width_of l = 1 + 2 * body_of l

-- a move stands in words at a place
pub record IsMove (cpus : ℕ) (ws : List ℕ) (at : ℕ) (l : Listed) : Type 0 where
  pub inside : at < length ws
  pub head : head_of cpus (slice_index ws at) ≡ Some l
  pub body : PiecesFit (body_of l) ws (at + 1)

-- from a place on there are moves, one after the other, and nothing else
pub data AllMoves (cpus : ℕ) (ws : List ℕ) : ℕ → Type 0 where
  end : AllMoves cpus ws (length ws)
  more : {at : ℕ} (l : Listed) → IsMove cpus ws at l → AllMoves cpus ws (at + width_of l) → AllMoves cpus ws at

-- the piece in two words at a place
abbrev pub piece_at : List ℕ → ℕ → Piece
piece_at ws at = piece_of (slice_index ws at) (slice_index ws (at + 1))

abbrev pub blank : Piece
blank = record { puts = false; len = 0; bits = 0; tells = 0 }
