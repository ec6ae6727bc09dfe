use Rattle.std.proofs.Common.{◌≡◌, ℕ, ◌<◌, List, length, subst, Option, MatchOption, rules, tests}
use Rattle.std.proofs.lemmas.Iterator.{YieldsList-from_slice, first_from_find}
use Rattle.std.proofs.lemmas.Iterator.Consumers.{YieldsList-from_enumerate}
use Rattle.std.specs.List.{AllWithin, HoldsAt, enumerate_from}
use Rattle.script.specs.declared.request.Request.{Request}
use Rattle.hall.proofs.Busy.{BusyAt, nth_from_chosen, some_chosen}
use Rattle.hall.proofs.player.Player.nth_busy.Goals as goal
use denote.Ref.{Bor}

-- what is known of what was found
abbrev pub Found : List (Option Request) → ℕ → Option (ℕ × Bor (Option Request)) → Type 0
Found js n r = MatchOption r (AllWithin (λ x. BusyAt js n x → ⊥) (enumerate_from 0 js) 0 (length (enumerate_from 0 js)))
    (λ x. BusyAt js n (x.0, x.1.now) × (i : ℕ) × (i < length (enumerate_from 0 js)) × HoldsAt (λ y. y ≡ (x.0, x.1.now)) (enumerate_from 0 js) i × AllWithin (λ y. BusyAt js n y → ⊥) (enumerate_from 0 js) 0 i)

pub returns : goal.returns
returns c =
    let jobs = c.args.self.now.jobs in
    let four : length jobs ≡ 4 = search rules in
    let chain = YieldsList-from_enumerate (YieldsList-from_slice jobs (cc)) (cc) in
    let first : Found jobs c.args.n c.find.result = first_from_find _ _ c.find.result (BusyAt jobs c.args.n) (λ x. BusyAt jobs c.args.n x → ⊥) c.find.ensures.ran chain (λ x q k. search (rules, tests)) (λ x q k. search (rules, tests)) in
    let f = subst (Found jobs c.args.n) c.in_ok-number.was first in
    nth_from_chosen jobs c.args.n four (c.in_ok-number.number, c.in_ok-number.field-0-1.now) f.0 f.1 f.2 f.3

pub returns-in_err-number : goal.returns-in_err-number
returns-in_err-number c =
    let jobs = c.args.self.now.jobs in
    let four : length jobs ≡ 4 = search rules in
    let chain = YieldsList-from_enumerate (YieldsList-from_slice jobs (cc)) (cc) in
    let first : Found jobs c.args.n c.find.result = first_from_find _ _ c.find.result (BusyAt jobs c.args.n) (λ x. BusyAt jobs c.args.n x → ⊥) c.find.ensures.ran chain (λ x q k. search (rules, tests)) (λ x q k. search (rules, tests)) in
    absurd (some_chosen jobs c.args.n four c.requires (subst (Found jobs c.args.n) c.in_err-number.was first))
