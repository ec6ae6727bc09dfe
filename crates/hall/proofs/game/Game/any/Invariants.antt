use Rattle.std.proofs.Common.{◌≡◌}
use Rattle.hall.proofs.game.Game.any.Given as goal

abbrev pub invariant-loop : goal.invariant-loop
invariant-loop g l = l.self.line ≡ l.initial.self.line
