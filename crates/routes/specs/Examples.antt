-- Worked examples of the table: what leads to it, what is asked, and what is told.
-- Assumes nothing.
use Rattle.std.specs.Prelude.{◌≡◌, ℕ, true, false, List, [], ◌∷◌, ◌++◌}
use Rattle.routes.specs.declared.Answer.{Answer}
use Rattle.routes.specs.declared.Answer.TheVariants.{Found, Nothing, No}
use Rattle.routes.specs.declared.Piece.{Piece}
use Rattle.routes.specs.Routes.{Route, find, changed, answer_of, table_of}

-- what is asked: the route of an address, or a change
pub data Question : Type 0 where
  Finds : ℕ → Question
  Changes : List Piece → Question

pub record Example : Type 0 where
  pub before : List (List Piece)
  pub asked : Question
  pub told : Answer

-- the table after changes, one after the other; one that is turned away leaves it as it was
unfoldable pub table_after : List (List Piece) → List Route → List Route
table_after [] rs = rs
table_after (ps ∷ changes) rs = table_after changes (table_of (changed ps rs) rs)

unfoldable pub tells : Question → List Route → Answer
tells (Finds a) rs = find a rs
tells (Changes ps) rs = answer_of (changed ps rs)

unfoldable pub AllHold : List Example → Type 0
AllHold [] = Unit {0}
AllHold (x ∷ xs) = (tells x.asked (table_after x.before []) ≡ x.told) × AllHold xs

abbrev pub put : ℕ → ℕ → ℕ → Piece
put bits len t = record { puts = true; len = len; bits = bits; tells = t }

abbrev pub take : ℕ → ℕ → Piece
take bits len = record { puts = false; len = len; bits = bits; tells = 0 }

abbrev pub row : List (List Piece) → Question → Answer → Example
row before asked told = record { before = before; asked = asked; told = told }

-- two routes, the second more special than the first
abbrev pub two : List (List Piece)
two = (put 0x0a000000 8 17 ∷ []) ∷ (put 0x0a010000 16 18 ∷ []) ∷ []

-- the second taken out and put in as another, in one change
abbrev pub replaced : List (List Piece)
replaced = two ++ ((take 0x0a010000 16 ∷ put 0x0a010000 16 19 ∷ []) ∷ [])

-- a change of which the second piece takes out what is not there
abbrev pub half_wrong : List Piece
half_wrong = put 0 0 5 ∷ take 0x0c000000 8 ∷ []

abbrev pub turned_away : List (List Piece)
turned_away = two ++ (half_wrong ∷ [])

-- the shortest route and the longest
abbrev pub extremes : List (List Piece)
extremes = (put 0 0 1 ∷ put 0xffffffff 32 2 ∷ []) ∷ []

-- The table. The first row is for every address.
abbrev pub examples : ℕ → List Example
examples anything =
    row [] (Finds anything) Nothing
    ∷ row two (Finds 0x0a010203) (Found 16 18)
    ∷ row two (Finds 0x0a020203) (Found 8 17)
    ∷ row two (Finds 0x0b000000) Nothing
    ∷ row replaced (Finds 0x0a010203) (Found 16 19)
    ∷ row two (Changes half_wrong) (No 3)
    ∷ row turned_away (Finds 0x0b000000) Nothing
    ∷ row [] (Changes (put 0x0a000001 8 20 ∷ [])) (No 2)
    ∷ row extremes (Finds 0xffffffff) (Found 32 2)
    ∷ row extremes (Finds 0xfffffffe) (Found 0 1)
    ∷ []

abbrev pub ExamplesHold : Type 0
ExamplesHold = (anything : ℕ) → AllHold (examples anything)
