use Rattle.world.proofs.Turns.{touch_fenced}
use Rattle.world.proofs.access.ScheduledWorldMemory.swap.Goals as goal

pub swap-was-requires : goal.swap-was-requires
swap-was-requires g c = touch_fenced c.args.p c.args.p c.args.block c.args.word _ _ c.arrive_each.ensures.still c.requires
