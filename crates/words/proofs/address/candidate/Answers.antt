use Rattle.std.proofs.Common.{arith}
use Rattle.std.proofs.lemmas.Nat.{one_shl}
use Rattle.words.specs.Address.{candidate}
use Rattle.words.proofs.Addresses.{candidate_small}
use Rattle.words.proofs.address.candidate.Goals as goal

pub returns : goal.returns
unfolding candidate
returns c =
    let whole = one_shl c.args.extra 32 (omega arith) in
    record { value = omega arith; small = omega (arith, candidate_small c.args.extra c.args.n (omega arith) (omega arith)) }
