use Rattle.std.proofs.Common.{◌≡◌, rules}
use Rattle.memory.specs.Pools.{AllCounted}
use Rattle.memory.proofs.Pools.{all_held}
use Rattle.memory.proofs.shared.SharedMemory.top_free.Goals as goal

pub returns-in_err-top-clause-free : goal.returns-in_err-top-clause-free
returns-in_err-top-clause-free c =
    let self = c.args.self.now in
    let none : self.free_count ≡ 0 = search rules in
    let all : AllCounted self.layout.blocks self.held.now 0 = rw none at self.counted in
    rw c.from_residual.ensures (λ b h. rw (all_held _ _ self.marked all b h) tt)
