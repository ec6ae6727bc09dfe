-- Where no block is left, the routes are more than the pool surely has room for.
use Rattle.std.proofs.Common.{arith}
use Rattle.std.proofs.lemmas.Bool.{lt-ltb}
use Rattle.routes.specs.Build.Laws.{FullIsTooMuch}
use Rattle.routes.proofs.Table.Lengths.{pieces-length}
use Rattle.routes.proofs.Tree.Nodes.{nodes_few, blocks_few}

-- Each node but the first has a route below it, so the tree is small.
pub full_much : FullIsTooMuch
full_much blocks t xs rs qs ps all few g short e =
    let n = blocks_few blocks t xs all in
    let m = nodes_few t g.deep g.proper in
    let l = pieces-length ps rs qs g.sound.unique e in
    let k = g.many in
    lt-ltb _ _ (omega arith)
