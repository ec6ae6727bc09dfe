-- When a list of moves can be played in slices, and why not.
-- Assumes nothing.
use Rattle.std.specs.Prelude.{◌≡◌, ℕ, ◌*◌, List, Some}
use Rattle.memory.specs.Layouts.{misfit, LaidOut}
use Rattle.memory.specs.declared.layout.Layout.{Layout}
use Rattle.moves.specs.declared.playing.Refused.{Refused}
use Rattle.moves.specs.declared.playing.Refused.TheVariants.{Memory, Own, Moves}
use Rattle.moves.specs.Moves.{AllMoves}

-- so many processors and blocks, and the lengths of the lent slices
pub record Sizes : Type 0 where
  pub cpus : ℕ
  pub blocks : ℕ
  pub words : ℕ
  pub held : ℕ
  pub free : ℕ
  pub late : ℕ
  pub own : ℕ

-- all is as it has to be
pub record Playable (s : Sizes) (moves : List ℕ) (l : Layout) : Type 0 where
  pub laid : LaidOut s.cpus s.blocks s.words s.held s.free s.late l
  pub own : s.own ≡ 4096 * s.cpus
  pub listed : AllMoves s.cpus moves 0

-- what is wrong
abbrev pub RefusedFor : Sizes → List ℕ → Refused → Type 0
RefusedFor s moves (Memory e) = misfit s.cpus s.blocks s.words s.held s.free s.late ≡ Some e
RefusedFor s moves Own = s.own ≡ 4096 * s.cpus → ⊥
RefusedFor s moves Moves = AllMoves s.cpus moves 0 → ⊥
