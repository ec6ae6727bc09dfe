-- What one piece of a change makes of the images on its way, of own words as a function.
-- Assumes nothing.
use Rattle.std.specs.Prelude.{ℕ, zero, suc, ◌+◌, cond, ◌&&◌, nat_le, nat_lt}
use Rattle.words.specs.Address.{nib, place}
use Rattle.own.specs.declared.piece.PieceWords.{PieceWords}
use Rattle.own.specs.Layout.{image_at, fresh_at, put}
use Rattle.own.specs.Images.{bare}
use Rattle.own.specs.Edits.{deep_of, bits_of, leaves_word}

-- the images of the levels from have to deep are noughts
abbrev pub blanked_in : ℕ → ℕ → (ℕ → ℕ) → ℕ → ℕ
blanked_in have deep f i = cond (nat_le (image_at have 0) i && nat_lt i (image_at (suc deep) 0)) 0 (f i)

-- the route word of a piece is set
abbrev pub route_in : PieceWords → (ℕ → ℕ) → ℕ → ℕ
route_in p f = put (image_at (deep_of p) (16 + place p.len (bits_of p))) (leaves_word p) f

-- level d points at the new block of the level below, or at 0 if that holds nothing
abbrev pub pointed_in : ℕ → ℕ → ℕ → (ℕ → ℕ) → ℕ → ℕ
pointed_in a first d f = put (image_at d (nib d a)) (cond (bare f (suc d)) 0 (f (fresh_at (first + suc d)))) f

-- the levels above d point, from the bottom up
unfoldable pub point_all_in : ℕ → ℕ → ℕ → (ℕ → ℕ) → ℕ → ℕ
point_all_in a first zero f = f
point_all_in a first (suc d) f = point_all_in a first d (pointed_in a first d f)

-- and how many levels are left then
unfoldable pub levels_all_in : ℕ → ℕ → ℕ → (ℕ → ℕ) → ℕ → ℕ
levels_all_in a first zero f levels = levels
levels_all_in a first (suc d) f levels = levels_all_in a first d (pointed_in a first d f) (cond (bare f (suc d)) (suc d) levels)

-- the images of nodes that do not exist are noughts, and the route word is set
abbrev pub prepared_in : PieceWords → ℕ → (ℕ → ℕ) → ℕ → ℕ
prepared_in p have f = route_in p (blanked_in have (deep_of p) f)

-- piece p is done in the images, of which the first have were read
abbrev pub edited_in : PieceWords → ℕ → ℕ → (ℕ → ℕ) → ℕ → ℕ
edited_in p have first f = point_all_in (bits_of p) first (deep_of p) (prepared_in p have f)

-- and how many levels are left then
abbrev pub levels_in : PieceWords → ℕ → ℕ → (ℕ → ℕ) → ℕ
levels_in p have first f = levels_all_in (bits_of p) first (deep_of p) (prepared_in p have f) (suc (deep_of p))
