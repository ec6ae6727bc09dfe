use Rattle.std.proofs.Common.{sym, refl, ◌∙◌, arith, length-set}
use Rattle.routes.specs.Memory.{rest, got, out}
use Rattle.memory.proofs.Arrivals.{arrives_same}
use Rattle.memory.proofs.Words.{val_small}
use Rattle.memory.proofs.Pools.{obtained_free, obtained_apart, obtained-count}
use Rattle.memory.proofs.Memories.{mark_set}
use Rattle.memory.proofs.shared.SharedMemory.take_block.Goals as goal

pub invariant_of-self-2 : goal.invariant_of-self-2
invariant_of-self-2 c =
    let self = c.args.self.now in
    let top = c.in_ok-block.ensures.top in
    let free = c.in_ok-block.ensures.free in record {
      wide = self.wide;
      marked = length-set _ _ _ ∙ self.marked;
      stacked = self.stacked;
      rowed = self.rowed;
      sixteen = self.sixteen;
      unheld = obtained_free _ _ _ _ self.marked self.unheld self.apart self.counted _ top.0 top.1;
      apart = obtained_apart _ _ _ _ self.marked self.unheld self.apart self.counted;
      counted = obtained-count _ _ _ _ self.marked self.unheld self.apart self.counted _ top.0 free.0 free.1;
      inside = self.inside;
      bound = self.bound;
    }

pub returns : goal.returns
returns c =
    let self = c.args.self.now in
    let free = c.in_ok-block.ensures.free in
    got _ _ _ free.0 free.1 (λ b w n. refl) (λ w. val_small self.words.now _ w) (arrives_same (sym (mark_set _ _ _ _ _ _ _ _ _ _ _ (omega (arith, self.marked, free.0)))))

pub returns-in_err-block : goal.returns-in_err-block
returns-in_err-block c = rw c.from_residual.ensures (out _ c.in_err-block.ensures.free (rest _))
