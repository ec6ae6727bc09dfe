use Rattle.std.proofs.Common.{◌∙◌, arith, length-set}
use Rattle.world.proofs.Marks.{marks_asked}
use Rattle.world.proofs.Turns.{next_over, next_begin}
use Rattle.world.proofs.world.ScheduledWorld.begin.Goals as goal

pub returns-then-not-asked : goal.returns-then-not-asked
returns-then-not-asked g c = record { next = next_over c.give.result _ _ _ _ c.give.ensures.next (c.give.ensures.unseen ∙ c.asked.ensures.unseen c.if-not-asked.true); allowed = c.give.ensures.allowed }

pub invariant_of-self-2 : goal.invariant_of-self-2
invariant_of-self-2 g c = record { sixteen = simp length-set c.args.self.now.sixteen; marks = marks_asked _ _ _ c.args.p c.args.ask _ c.args.self.now.marks c.args.self.now.sixteen (omega (arith, c.args.self.now.memory.now.layout.few)) (c.if-not-asked.ensures.seen tt) }

pub returns : goal.returns
returns g c = record { next = next_begin c.args.ask c.args.p _ _ _ _ c.requires.0 c.requires.1 (c.if-not-asked.ensures.seen tt); allowed = c.allow.ensures }
