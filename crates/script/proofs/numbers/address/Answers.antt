use Rattle.std.proofs.Common.{sym, arith}
use Rattle.script.proofs.Values.{small_some, small_none, address_fits}
use Rattle.script.proofs.numbers.address.Goals as goal

pub overflow_cast-result : goal.overflow_cast-result
overflow_cast-result c =
    let fits = address_fits c.args.word.now (sym c.if-not-all_digits.ensures) c.if-word-ne8.false in
    let is = small_some _ _ c.in_ok-value.ensures in
    omega arith

pub returns-in_err-value : goal.returns-in_err-value
returns-in_err-value c =
    let fits = address_fits c.args.word.now (sym c.if-not-all_digits.ensures) c.if-word-ne8.false in
    absurd (omega (arith, small_none _ c.in_err-value.ensures))
