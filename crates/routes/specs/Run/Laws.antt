-- What is promised of everything that may be seen, each a theorem that a contract names.
-- Assumes nothing.
use Rattle.std.specs.Prelude.{◌≡◌, ℕ, ◌+◌, ◌≤◌, true, false, cond, not, ◌&&◌, List, ◌==◌, ◌≢◌, nat_lt}
use Rattle.routes.specs.Routes.{Event, Quiet, State, Run, busy, is_question, must_wait, under}
use Rattle.routes.specs.Run.Nows.{is_change, age_of, limit_of, counts, in_list}
use Rattle.routes.specs.Run.Steps.{turned_at}

-- 1. Under way, by what was seen, is what is not quiet; past the last processor all is quiet; and nothing gets older than it may.
abbrev pub UnderWay : Type 0
UnderWay =
    (cpus blocks : ℕ) (es : List Event) (s : State) → Run cpus blocks es s → (p : ℕ) →
    (under p es ≡ busy (s.now' p)) × (cpus ≤ p → s.now' p ≡ Quiet) × (age_of (s.now' p) ≤ limit_of (s.now' p))

-- 2. Who leads has a change under way, nobody else leads, and all others must wait.
abbrev pub OneLeads : Type 0
OneLeads =
    (cpus blocks : ℕ) (es : List Event) (s : State) → Run cpus blocks es s → (p : ℕ) → s.lead p ≡ true →
    (is_change (s.now' p) ≡ true) × ((q : ℕ) → (q ≢ p) → (s.lead q ≡ false) × (must_wait cpus q s ≡ true))

-- 3. Who is waited for has a question under way.
abbrev pub WaitsForQuestions : Type 0
WaitsForQuestions =
    (cpus blocks : ℕ) (es : List Event) (s : State) → Run cpus blocks es s → (p q : ℕ) → in_list q (s.waits p) ≡ true → is_question (s.now' q) ≡ true

-- 4. A turn that counts makes what is under way there older by one, and nothing else; one in which it need not wait starts a new wait, for just the questions under way.
abbrev pub TurnCounts : Type 0
TurnCounts =
    (cpus p : ℕ) (s : State) (q : ℕ) →
    (age_of ((turned_at cpus p s).now' q) ≡ age_of (s.now' q) + cond (q == p && counts cpus p s) 1 0) ×
    ((r : ℕ) → in_list r ((turned_at cpus p s).waits q) ≡ cond (q == p && not (must_wait cpus p s)) (nat_lt r cpus && is_question (s.now' r)) (in_list r (s.waits q)))
