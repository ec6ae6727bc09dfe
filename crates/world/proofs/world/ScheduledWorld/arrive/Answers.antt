use Rattle.std.proofs.Common.{Some, sym, refl, arith}
use Rattle.memory.specs.Memories.{mem_of}
use Rattle.memory.proofs.Memories.{told_any}
use Rattle.memory.proofs.Arrivals.{arrives_oldest, fence_step, oldest_shorter}
use Rattle.world.proofs.world.ScheduledWorld.arrive.Goals as goal

pub returns-in_default : goal.returns-in_default
returns-in_default g c = record { arrives = arrives_oldest c.args.p c.arrive_oldest.ensures.arrives; still = fence_step c.args.p _ _ c.arrive_oldest.ensures.arrives; fewer = λ t. absurd t; unseen = refl }

pub returns : goal.returns
returns g c =
    let any = sym (told_any (Some c.in-Some.store) _ c.in-Some.ensures.told) in
    record {
      arrives = arrives_oldest c.args.p c.arrive_oldest.ensures.arrives;
      still = fence_step c.args.p _ _ c.arrive_oldest.ensures.arrives;
      fewer = λ t. omega (arith, oldest_shorter c.args.p (mem_of c.args.self.now.memory.now) _ c.arrive_oldest.ensures.arrives any);
      unseen = refl;
    }
