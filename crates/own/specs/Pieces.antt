-- The pieces of a change among the own words.
-- Assumes nothing.
use Rattle.std.specs.Prelude.{◌≡◌, ℕ, zero, suc, ◌<◌, Bool, cond, not, ◌&&◌, List, length, ◌==◌, ◌≢◌, slice_set}
use Rattle.own.specs.declared.piece.Earlier.{Earlier}
use Rattle.own.specs.declared.piece.Earlier.TheVariants.{Never, Put, Taken}
use Rattle.own.specs.declared.piece.PieceWords.{PieceWords}
use Rattle.own.specs.Layout.{piece_at, words_of}

-- piece k; it puts if its first word is not 0
abbrev pub piece_of : (ℕ → ℕ) → ℕ → PieceWords
piece_of f k = record { puts = not (f (piece_at k 0) == 0); len = f (piece_at k 1); bits = f (piece_at k 2); tells = f (piece_at k 3) }

-- a piece is written as number k
unfoldable pub piece_written : List ℕ → ℕ → PieceWords → List ℕ
piece_written o k p = slice_set (slice_set (slice_set (slice_set o (piece_at k 0) (cond p.puts 1 0)) (piece_at k 1) p.len) (piece_at k 2) p.bits) (piece_at k 3) p.tells

-- do two pieces speak of one route
abbrev pub same_route : PieceWords → PieceWords → Bool
same_route p q = p.len == q.len && p.bits == q.bits

-- what is done with the route of p, after piece q
abbrev pub later_of : Earlier → PieceWords → PieceWords → Earlier
later_of seen p q = cond (same_route p q) (cond q.puts Put Taken) seen

-- what the last of the first j pieces does that has the route of p
unfoldable pub earlier_of : (ℕ → ℕ) → PieceWords → ℕ → Earlier
earlier_of f p zero = Never
earlier_of f p (suc j) = later_of (earlier_of f p j) p (piece_of f j)

-- a piece that was written is read as it was, and other pieces stay
abbrev pub ReadsWhatItWrote : Type 0
ReadsWhatItWrote = (o : List ℕ) (k : ℕ) (p : PieceWords) → length o ≡ 4096 → k < 8 →
    (piece_of (words_of (piece_written o k p)) k ≡ p) × ((j : ℕ) → (j ≢ k) → piece_of (words_of (piece_written o k p)) j ≡ piece_of (words_of o) j)
