-- The promises on what may be seen.
use Rattle.std.proofs.Common.{◌≡◌, ℕ, false, sym, inl, inr}
use Rattle.std.proofs.lemmas.Bool.{cases_Bool}
use Rattle.routes.specs.Run.Laws.{UnderWay, OneLeads, WaitsForQuestions, TurnCounts}
use Rattle.routes.proofs.Run.Leads.{leader_waits}
use Rattle.routes.proofs.Run.Steps.{turned_age, turned_waits}
use Rattle.routes.proofs.Run.Always.{under_is, outside_quiet, none_too_old, leader_changes, leader_small, waited_asks, one_leads_lem}

-- Under way, by what was seen, is what is not quiet.
pub under_way_lem : UnderWay
under_way_lem cpus blocks es s r p = (under_is r p, outside_quiet r p, none_too_old r p)

-- Who leads has a change under way, nobody else leads, and all others must wait.
pub one_leads_all : OneLeads
one_leads_all cpus blocks es s r p f = (leader_changes r p f, λ q ne. (alone q ne, leader_waits cpus q p s (leader_small r p f) (λ e. ne (sym e)) f))
  where
    alone : (q : ℕ) → (q ≡ p → ⊥) → s.lead q ≡ false
    alone q ne = elim (cases_Bool (s.lead q)) [ inl i ↦ absurd (ne (one_leads_lem r p q f i)) | inr i ↦ i ]

-- Who is waited for has a question under way.
pub waits_for_questions : WaitsForQuestions
waits_for_questions cpus blocks es s r = waited_asks r

-- A turn that counts makes older by one, and starts a new wait.
pub turn_counts_lem : TurnCounts
turn_counts_lem cpus p s q = (turned_age cpus p q s, λ r. turned_waits cpus p q r s)
