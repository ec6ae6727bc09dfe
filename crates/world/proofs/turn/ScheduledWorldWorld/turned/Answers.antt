use Rattle.world.proofs.Marks.{marks_turned}
use Rattle.world.proofs.turn.ScheduledWorldWorld.turned.Goals as goal

pub invariant_of-self-2 : goal.invariant_of-self-2
invariant_of-self-2 g c = record { sixteen = c.args.self.now.sixteen; marks = marks_turned _ _ _ c.args.p c.args.self.now.marks (c.if-not-turned.ensures.seen tt) }
