-- What a turn makes of a script that is being played.
-- Assumes nothing.
use Rattle.std.specs.Prelude.{◌≡◌, ℕ, ◌+◌, ◌-◌, ◌^◌, min, Option}
use Rattle.routes.specs.declared.Answer.{Answer}
use Rattle.hall.specs.declared.game.Game.{Game}
use Rattle.hall.specs.Players.{job_of, Turned}

-- the number of the next line, from 1
abbrev pub next_line : Game → ℕ
next_line g = min (g.line + 1) (2 ^ 64 - 1)

-- one of its turns is spent on a processor, which tells something or nothing
pub record TurnSpent (p : ℕ) (before after : Game) : Type 0 where
  pub told : Option Answer
  pub turned : Turned (job_of before.player p) p before.player told after.player
  pub left : after.left + 1 ≡ before.left
