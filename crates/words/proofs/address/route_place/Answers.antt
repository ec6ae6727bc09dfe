use Rattle.std.proofs.Common.{◌%◌, arith}
use Rattle.std.proofs.lemmas.Nat.{one_shl}
use Rattle.words.specs.Address.{place}
use Rattle.words.proofs.Addresses.{place_small}
use Rattle.words.proofs.address.route_place.Goals as goal

pub returns : goal.returns
unfolding place
returns c =
    let whole = one_shl (c.args.len % 4) 64 (omega arith) in
    let bits = c.from.ensures in
    let within = place_small c.args.len c.args.bits in
    record { value = grind arith; small = grind arith }
