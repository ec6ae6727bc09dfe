use Rattle.std.proofs.Common.{◌≡◌, arith}
use Rattle.routes.specs.Memory.{last_late}
use Rattle.memory.specs.Rings.{row_from}
use Rattle.memory.proofs.late_row.LateRow.newest.Goals as goal

pub returns : goal.returns
unfolding row_from last_late
returns c = λ old. (let e : c.loop-k.k ≡ 0 = omega (arith, c.loop-k-test.false) in rw e at (c.loop-k.invariant old))
