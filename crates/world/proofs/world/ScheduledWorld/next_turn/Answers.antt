use Rattle.std.proofs.Common.{◌≡◌, refl, ◌∙◌}
use Rattle.routes.specs.Memory.{Arrives, rest}
use Rattle.routes.proofs.Late.Arriving.{arrives_on}
use Rattle.memory.specs.Memories.{mem_of}
use Rattle.world.specs.Journals.{seen_of}
use Rattle.world.proofs.Turns.{next_arrived, next_over, next_go, turn_given}
use Rattle.world.proofs.world.ScheduledWorld.next_turn.Goals as goal
use Rattle.world.proofs.world.ScheduledWorld.next_turn.Goals.{in-Begin+else-may_begin, in-Go+else-may_go, in-Arrive, else-loop-test, then-loop-test+in-Over}

pub loop-init : goal.loop-init
loop-init g c = (rest _, refl)

pub returns-then-may_begin : goal.returns-then-may_begin
returns-then-may_begin g c = record { next = next_arrived c.begin.result.1 c.begin.result.0 _ _ _ _ c.loop.invariant.0 c.loop.invariant.1 c.begin.ensures.next; arrives = turn_given c.begin.result.0 c.loop.invariant.0 c.begin.ensures.allowed }

pub returns-then-may_go : goal.returns-then-may_go
returns-then-may_go g c =
    let h = c.if-may_go.ensures tt in
    record { next = next_arrived c.give.result.1 c.give.result.0 _ _ _ _ c.loop.invariant.0 c.loop.invariant.1 (next_go c.give.result _ _ _ _ _ c.give.ensures.next h.0 h.1 c.give.ensures.unseen); arrives = turn_given c.give.result.0 c.loop.invariant.0 c.give.ensures.allowed }

pub loop-preserved : goal.loop-preserved
loop-preserved g c = elim c.match-next.branch [
  | in-Begin+else-may_begin w ↦ rw w.self-is c.loop.invariant
  | in-Go+else-may_go w ↦ rw w.self-is c.loop.invariant
  | in-Arrive w ↦ rw w.self-is (arrives_on c.loop.invariant.0 w.arrive.ensures.arrives, w.arrive.ensures.unseen ∙ c.loop.invariant.1)
]

pub returns : goal.returns
returns g c =
    let left : Arrives (mem_of c.args.self.now.memory.now) (mem_of c.loop-test.self.memory.now) × (seen_of c.loop-test.self.journal.now ≡ seen_of c.args.self.now.journal.now) =
    elim c.loop-test.branch [ else-loop-test w ↦ rw w.self-is c.loop.invariant | then-loop-test+in-Over w ↦ rw w.self-is c.loop.invariant ] in
    record { next = next_over c.give-2.result _ _ _ _ c.give-2.ensures.next (c.give-2.ensures.unseen ∙ left.1); arrives = turn_given c.give-2.result.0 left.0 c.give-2.ensures.allowed }
