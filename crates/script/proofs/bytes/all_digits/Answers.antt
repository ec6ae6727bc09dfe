use Rattle.std.proofs.Common.{length, rules, tests, sym, arith}
use Rattle.std.proofs.lemmas.Bool.{eqb-false, lt-ltb}
use Rattle.std.proofs.lemmas.Iterator.{YieldsList-from_slice}
use Rattle.std.proofs.lemmas.Iterator.Search.{all_from_yields_List}
use Rattle.std.specs.Char.{is_digit}
use Rattle.script.proofs.bytes.all_digits.Goals as goal

pub returns-then-not-is_empty : goal.returns-then-not-is_empty
returns-then-not-is_empty c =
    let some = eqb-false _ _ (sym c.if-not-is_empty.ensures) in
    rw (lt-ltb 0 (length c.args.text.now) (omega arith)) (all_from_yields_List (λ b. is_digit b c.args.radix) _ _ _ c.all.ensures.ran (YieldsList-from_slice c.args.text.now cc) (λ x b q k. search (rules, tests)))
