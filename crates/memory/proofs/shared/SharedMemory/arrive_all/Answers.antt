use Rattle.std.proofs.Common.{sym, ◌∙◌, arith}
use Rattle.memory.specs.Memories.{mem_of}
use Rattle.memory.proofs.Arrivals.{fence_step, fence_over, oldest_shorter}
use Rattle.memory.proofs.shared.SharedMemory.arrive_all.Goals as goal

pub loop-smaller : goal.loop-smaller
loop-smaller c = omega (arith, oldest_shorter c.args.p (mem_of c.loop.self) (mem_of c.arrive.new.self) c.arrive.ensures.arrives (sym c.arrive.ensures.told ∙ c.loop-test.true))

pub loop-preserved : goal.loop-preserved
loop-preserved c = fence_step c.args.p _ _ c.arrive.ensures.arrives ∙ c.loop.invariant

pub returns : goal.returns
returns c = fence_over c.args.p _ _ c.arrive.ensures.arrives (sym c.arrive.ensures.told ∙ c.loop-test.false) ∙ c.loop.invariant
