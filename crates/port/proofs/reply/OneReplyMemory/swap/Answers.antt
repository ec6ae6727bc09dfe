use Rattle.std.proofs.Common.{refl}
use Rattle.routes.specs.Memory.{counted, swapped}
use Rattle.port.proofs.Replying.{done, swaps}
use Rattle.port.proofs.reply.OneReplyMemory.swap.Goals as goal

pub returns : goal.returns
returns c = (
  swaps c.args.self.now _ _ _ c.requires.0,
  (done c.args.self.now c.args._p (λ p m. counted (swapped p c.args.block c.args.word c.args.old c.args.new m)) c.requires.0 c.requires.1, refl),
)
