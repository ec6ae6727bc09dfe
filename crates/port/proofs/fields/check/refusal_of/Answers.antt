use Rattle.std.proofs.Common.{◌≡◌, ℕ, None, arith}
use Rattle.std.proofs.lemmas.Bool.Decides.{nat_tests}
use Rattle.std.proofs.lemmas.Result.{err_from_is_err_and}
use Rattle.routes.specs.Refusals.{number_of}
use Rattle.routes.specs.declared.refusal.Refusal.{Refusal}
use Rattle.routes.specs.declared.refusal.Refusal.TheVariants.{PieceCount, UncleanPrefix, AbsentRoute}
use Rattle.port.specs.Fields.{refusal_of}
use Rattle.port.proofs.fields.check.refusal_of.Goals as goal

-- A number by which no refusal is told is of none.
untold : (n m : ℕ) → m ≡ n → ((why : Refusal) → number_of why ≡ m → ⊥) → None ≡ refusal_of n
untold n m e none =
    let count : 1 ≡ m → ⊥ = none PieceCount in
    let unclean : 2 ≡ m → ⊥ = none UncleanPrefix in
    let absent : 3 ≡ m → ⊥ = none AbsentRoute in
    grind (arith, nat_tests)

pub returns-in_err-try_from-2 : goal.returns-in_err-try_from-2
returns-in_err-try_from-2 c =
    let p = err_from_is_err_and c.from_residual-in_err-try_from-2.result c.from_residual-in_err-try_from-2.ensures.1 in
    rw p.1 (untold c.args.number _ c.in_ok-try_from.ensures.1 c.in_err-try_from-2.ensures.1)
