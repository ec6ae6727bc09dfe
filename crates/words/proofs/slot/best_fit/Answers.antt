use Rattle.std.proofs.Common.{◌≡◌, ℕ, ◌+◌, List, get_or, Option, refl, add-one, rules}
use Rattle.words.specs.declared.slot.Fit.{Fit}
use Rattle.words.specs.Address.{candidate}
use Rattle.words.specs.Slots.{fit_or, fit_below}
use Rattle.words.proofs.slot.best_fit.Goals as goal

-- One more extra length is looked at.
more : (rs : List ℕ) (n k i : ℕ) (best r : Option Fit) → best ≡ fit_below k (λ x. get_or rs x 0) n → i ≡ candidate k n → r ≡ fit_or k (get_or rs i 0) best → r ≡ fit_below (k + 1) (λ x. get_or rs x 0) n
unfolding fit_below
more rs n k i best r p q t = rw (add-one, ← p, ← q) t

pub loop-extra-init : goal.loop-extra-init
unfolding fit_below
loop-extra-init c = (refl, tt)

pub loop-extra-preserved : goal.loop-extra-preserved
loop-extra-preserved c =
    (more _ _ c.loop-extra.extra c.candidate.result _ _ c.loop-extra.invariant.0 (search rules) (search rules), c.fit_or-best.ensures.inside)
