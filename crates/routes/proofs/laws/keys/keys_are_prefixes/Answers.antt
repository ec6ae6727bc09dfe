use Rattle.routes.proofs.laws.keys.keys_are_prefixes.Goals as goal
use Rattle.routes.proofs.Keys.Apart.{prefix_key, keys_apart}
use Rattle.routes.proofs.Keys.Prefixes.{key_prefix}

pub returns : goal.returns
returns c = record { key = prefix_key; apart = keys_apart; back = key_prefix }
