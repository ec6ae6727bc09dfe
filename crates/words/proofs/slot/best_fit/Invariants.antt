use Rattle.std.proofs.Common.{◌≡◌, get_or}
use Rattle.words.specs.Slots.{InRange, fit_below}
use Rattle.words.proofs.slot.best_fit.Given as goal

abbrev pub invariant-loop-extra : goal.invariant-loop-extra
invariant-loop-extra l = (l.best ≡ fit_below l.extra (λ x. get_or l.routes x 0) l.n) × InRange l.best
