-- How a list of moves was played, in numbers.
-- Assumes nothing.
use Rattle.std.specs.Prelude.{◌≡◌, ℕ, zero, suc, List}
use Rattle.memory.specs.declared.layout.MemoryError.TheVariants.{Cpus, Blocks, Words, Marks, Stack, Rows}
use Rattle.moves.specs.declared.playing.Played.{Played}
use Rattle.moves.specs.declared.playing.Refused.{Refused}
use Rattle.moves.specs.declared.playing.Refused.TheVariants.{Memory, Own, Moves}
use Rattle.moves.specs.Plays.{Sizes, RefusedFor}
use Rattle.export.specs.declared.play.PlayedWords.{PlayedWords}

-- the number of a refusal
abbrev pub refused_number : Refused → ℕ
refused_number (Memory Cpus) = 1
refused_number (Memory Blocks) = 2
refused_number (Memory Words) = 3
refused_number (Memory Marks) = 4
refused_number (Memory Stack) = 5
refused_number (Memory Rows) = 6
refused_number Own = 7
refused_number Moves = 8

-- a number of a refusal is the right one
abbrev pub WhyNot : ℕ → Sizes → List ℕ → Type 0
WhyNot n s moves = (e : Refused) → refused_number e ≡ n → RefusedFor s moves e

-- the words say how it was played
pub record PlayedBy (p : Played) (w : PlayedWords) : Type 0 where
  pub moves : w.moves ≡ p.moves
  pub turns : w.turns ≡ p.turns
  pub events : w.events ≡ p.events
  pub notes : w.notes ≡ p.noted
  pub passed : w.passed ≡ p.passed
  pub held : w.held ≡ p.held

-- of a number that is not 0
abbrev pub Unplayed : ℕ → Type 0 → Type 0
Unplayed zero P = Unit {0}
Unplayed (suc n) P = P
