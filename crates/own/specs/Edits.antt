-- What one piece of a change makes of the images on its way.
-- Assumes nothing.
use Rattle.std.specs.Prelude.{ℕ, zero, suc, ◌+◌, ◌-◌, ◌*◌, ◌/◌, ◌%◌, ◌^◌, cond, List, slice_set}
use Rattle.words.specs.Address.{nib, place}
use Rattle.words.specs.Slots.{route_word}
use Rattle.own.specs.declared.piece.PieceWords.{PieceWords}
use Rattle.own.specs.Layout.{image_at, fresh_at, words_of}
use Rattle.own.specs.Pieces.{piece_of}
use Rattle.own.specs.Images.{bare}

-- so many words from start on are 0
unfoldable pub blank : List ℕ → ℕ → ℕ → List ℕ
blank o start zero = o
blank o start (suc n) = slice_set (blank o start n) (start + n) 0

-- the images of the levels from have to deep are noughts
abbrev pub blanked : List ℕ → ℕ → ℕ → List ℕ
blanked o have deep = blank o (32 + 32 * have) (32 * (deep + 1 - have))

-- the level at which the route of a piece ends
abbrev pub deep_of : PieceWords → ℕ
deep_of p = p.len / 4

-- the first bits of the addresses of its route
abbrev pub bits_of : PieceWords → ℕ
bits_of p = p.bits % 2 ^ 32

-- the route word that it leaves
abbrev pub leaves_word : PieceWords → ℕ
leaves_word p = cond p.puts (route_word (p.tells % 2 ^ 32)) 0

abbrev pub route_set : List ℕ → PieceWords → List ℕ
route_set o p = slice_set o (image_at (deep_of p) (16 + place p.len (bits_of p))) (leaves_word p)

-- level d points at the new block of the level below, or at 0 if that holds nothing
abbrev pub pointed : List ℕ → ℕ → ℕ → ℕ → List ℕ
pointed o a first d = slice_set o (image_at d (nib d a)) (cond (bare (words_of o) (suc d)) 0 (words_of o (fresh_at (first + suc d))))

-- a level that holds nothing is left out, and those below it
abbrev pub levels_left : List ℕ → ℕ → ℕ → ℕ
levels_left o d levels = cond (bare (words_of o) (suc d)) (suc d) levels

-- the levels above d point, from the bottom up
unfoldable pub point_all : List ℕ → ℕ → ℕ → ℕ → List ℕ
point_all o a first zero = o
point_all o a first (suc d) = point_all (pointed o a first d) a first d

-- and how many levels are left then
unfoldable pub levels_all : List ℕ → ℕ → ℕ → ℕ → ℕ → ℕ
levels_all o a first zero levels = levels
levels_all o a first (suc d) levels = levels_all (pointed o a first d) a first d (levels_left o d levels)

-- the images of nodes that do not exist are noughts, and the route word is set
unfoldable pub prepared : List ℕ → ℕ → ℕ → List ℕ
prepared o k have = route_set (blanked o have (deep_of (piece_of (words_of o) k))) (piece_of (words_of o) k)

-- piece k is done in the images, of which the first have were read
unfoldable pub edited : List ℕ → ℕ → ℕ → ℕ → List ℕ
edited o k have first = point_all (prepared o k have) (bits_of (piece_of (words_of o) k)) first (deep_of (piece_of (words_of o) k))

unfoldable pub levels_edited : List ℕ → ℕ → ℕ → ℕ → ℕ
levels_edited o k have first = levels_all (prepared o k have) (bits_of (piece_of (words_of o) k)) first (deep_of (piece_of (words_of o) k)) (deep_of (piece_of (words_of o) k) + 1)
