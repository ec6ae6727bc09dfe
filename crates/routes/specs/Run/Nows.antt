-- What is under way, taken apart: is it a change, how old is it, how old may it get; and who leads, who is waited for.
-- Assumes nothing.
use Rattle.std.specs.Prelude.{◌≡◌, ℕ, Bool, true, false, not, ◌&&◌, ◌||◌, List, [], ◌∷◌, ◌==◌}
use Rattle.routes.specs.declared.Ask.TheVariants.{Find, Change}
use Rattle.routes.specs.Routes.{Now, Quiet, Under, Over, State, is_question, must_wait, limit}

unfoldable pub is_change : Now → Bool
is_change Quiet = false
is_change (Under (Find a) ps g) = false
is_change (Under (Change n) ps g) = true
is_change (Over (Find a) r g) = false
is_change (Over (Change n) r g) = true

-- how many turns it has had that count
unfoldable pub age_of : Now → ℕ
age_of Quiet = 0
age_of (Under k ps g) = g
age_of (Over k r g) = g

-- how many it may have
unfoldable pub limit_of : Now → ℕ
limit_of Quiet = 0
limit_of (Under k ps g) = limit k
limit_of (Over k r g) = limit k

-- does a turn of p make it older: a question's always, a change's if it need not wait
abbrev pub counts : ℕ → ℕ → State → Bool
counts cpus p s = is_question (s.now' p) || (is_change (s.now' p) && not (must_wait cpus p s))

unfoldable pub in_list : ℕ → List ℕ → Bool
in_list q [] = false
in_list q (x ∷ xs) = q == x || in_list q xs

-- who leads is `who`, or nobody
abbrev pub OneLeader : Bool → ℕ → State → Type 0
OneLeader locked who s = (q : ℕ) → s.lead q ≡ (locked && q == who)
