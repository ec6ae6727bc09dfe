use Rattle.std.proofs.Common.{◌<◌, length, sym, ◌∙◌, arith, length-set}
use Rattle.routes.proofs.Basics.Tests.{T_true}
use Rattle.memory.proofs.Arrivals.{arrives_same}
use Rattle.memory.proofs.Pools.{stack_room, released_free, released_apart, released-count}
use Rattle.memory.proofs.Memories.{mark_set}
use Rattle.memory.proofs.shared.SharedMemory.put_back.Goals as goal

pub bounds-self-top : goal.bounds-self-top
bounds-self-top c =
    let self = c.args.self.now in
    omega (arith, self.stacked, stack_room _ _ _ _ self.marked self.unheld self.apart self.counted c.args.block c.requires.inside (T_true _ c.requires.held))

pub invariant_of-self-2 : goal.invariant_of-self-2
invariant_of-self-2 c =
    let self = c.args.self.now in
    let held = T_true _ c.requires.held in
    let room : self.free_count < length self.free.now = omega (arith, self.stacked, stack_room _ _ _ _ self.marked self.unheld self.apart self.counted c.args.block c.requires.inside held) in record {
      wide = self.wide;
      marked = length-set _ _ _ ∙ self.marked;
      stacked = length-set _ _ _ ∙ self.stacked;
      rowed = self.rowed;
      sixteen = self.sixteen;
      unheld = released_free _ _ _ _ self.marked self.unheld self.apart self.counted _ c.requires.inside held room;
      apart = released_apart _ _ _ _ self.marked self.unheld self.apart self.counted _ held room;
      counted = released-count _ _ _ _ self.marked self.unheld self.apart self.counted _ c.requires.inside held;
      inside = self.inside;
      bound = self.bound;
    }

pub returns : goal.returns
returns c = arrives_same (sym (mark_set _ _ _ _ _ _ _ _ _ _ _ (omega (arith, c.args.self.now.marked, c.requires.inside))))
