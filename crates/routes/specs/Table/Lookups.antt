-- Looking up a route by its length and bits; and a question as such lookups, the longest first.
-- Assumes nothing.
use Rattle.std.specs.Prelude.{ℕ, zero, suc, ◌-◌, ◌*◌, ◌/◌, ◌^◌, Bool, cond, ◌&&◌, List, [], ◌∷◌, ◌==◌}
use Rattle.words.specs.Slots.{route_word}
use Rattle.routes.specs.declared.Answer.{Answer}
use Rattle.routes.specs.declared.Answer.TheVariants.{Found, Nothing}
use Rattle.routes.specs.declared.Piece.{Piece}
use Rattle.routes.specs.Routes.{Route}

-- the route word of a length and bits, or 0 where there is no route
unfoldable pub lookup : ℕ → ℕ → List Route → ℕ
lookup len bits [] = 0
lookup len bits (r ∷ rs) = cond (len == r.len && bits == r.bits) (route_word r.tells) (lookup len bits rs)

-- the first len of an address's 32 bits, and noughts
unfoldable pub masked : ℕ → ℕ → ℕ
masked len a = a / 2 ^ (32 - len) * 2 ^ (32 - len)

-- the route word of an address's own prefix of each length
abbrev pub lookups : ℕ → List Route → ℕ → ℕ
lookups a rs len = lookup len (masked len a) rs

-- of a route word for each length below k: the longest that is there
unfoldable pub seek : (ℕ → ℕ) → ℕ → Answer
seek word zero = Nothing
seek word (suc k) = cond (word k == 0) (seek word k) (Found k (word k - 2 ^ 32))

-- the route word that a piece leaves at its length and bits
abbrev pub word_after : Piece → ℕ
word_after p = cond p.puts (route_word p.tells) 0

-- is a route there after some pieces: the last of them with its length and bits decides, or else it is as before
unfoldable pub decides : ℕ → ℕ → List Piece → Bool → Bool
decides len bits [] before = before
decides len bits (p ∷ ps) before = decides len bits ps (cond (len == p.len && bits == p.bits) p.puts before)
