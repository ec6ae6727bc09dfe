use Rattle.std.proofs.Common.{length-set}
use Rattle.world.proofs.Marks.{marks_told}
use Rattle.world.proofs.turn.ScheduledWorldWorld.told.Goals as goal

pub invariant_of-self-2 : goal.invariant_of-self-2
invariant_of-self-2 g c =
    let h = c.if-not-told.ensures.seen tt in
    record { sixteen = simp length-set c.args.self.now.sixteen; marks = marks_told _ _ _ c.args.p _ c.args.self.now.marks c.args.self.now.sixteen h.0 h.1 }
