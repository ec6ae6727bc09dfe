-- What is proved of counts.
-- Assumes nothing.
use Rattle.std.specs.Prelude.{ℕ, ◌<◌, ◌≤◌, List, length}
use Rattle.routes.specs.Counts.Counts.{cnt}

-- A list in which each of n numbers stands is at least n long.
abbrev pub Pigeonhole : Type 0
Pigeonhole = (n : ℕ) (xs : List ℕ) → ((b : ℕ) → b < n → 1 ≤ cnt b xs) → n ≤ length xs
