use Rattle.std.proofs.Common.{◌≡◌, ◌^◌, ◌<◌, drop}
use Rattle.std.specs.Str.Parse.{digits_value, digits_value_after}
use Rattle.script.proofs.numbers.value.Given as goal

-- what is left, read after the number so far, gives the whole
abbrev pub invariant-loop-b : goal.invariant-loop-b
invariant-loop-b l = (digits_value_after l.radix l.n (drop l.b-index l.digits) ≡ digits_value l.radix l.digits) × (l.n < 2 ^ 64)
