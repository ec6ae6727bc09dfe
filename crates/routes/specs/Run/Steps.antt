-- The states after a step of a run, by name.
-- Assumes nothing.
use Rattle.std.specs.Prelude.{ℕ, List}
use Rattle.routes.specs.declared.Ask.{Ask}
use Rattle.routes.specs.declared.Answer.{Answer}
use Rattle.routes.specs.declared.Piece.{Piece}
use Rattle.routes.specs.Routes.{Route, Quiet, Under, Over, State, set, waited, left', older, must_wait}

-- p was asked something
abbrev pub asked_at : ℕ → Ask → List Piece → State → State
asked_at p k ps s = set p (Under k ps 0) s.table s

-- what p was asked took effect, unseen: its answer is a, and the table is now t
abbrev pub settled_at : ℕ → Ask → Answer → ℕ → List Route → State → State
settled_at p k a g t s = set p (Over k a g) t s

-- p had a turn
abbrev pub turned_at : ℕ → ℕ → State → State
turned_at cpus p s = waited cpus p s (set p (older (must_wait cpus p s) (s.now' p)) s.table s)

-- p has told its answer
abbrev pub told_at : ℕ → State → State
told_at p s = left' p (set p Quiet s.table s)
