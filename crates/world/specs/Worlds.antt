-- Which processors of a world have something under way.
-- Assumes nothing.
use Rattle.std.specs.Prelude.{◌≡◌, ℕ, ◌<◌, Bool, false, List, slice_index_or}
use Rattle.routes.specs.Routes.{Event, under}

-- the marks are what was seen says
abbrev pub MarksUnder : List Bool → List Event → Type 0
MarksUnder bs es = (p : ℕ) → p < 16 → slice_index_or bs p false ≡ under p es
