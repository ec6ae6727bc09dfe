use Rattle.std.proofs.Common.{refl}
use Rattle.routes.specs.Memory.{counted}
use Rattle.port.proofs.Replying.{done, loads}
use Rattle.port.proofs.reply.OneReplyMemory.load.Goals as goal

pub returns : goal.returns
returns c = (
  loads c.args.self.now _ _ _ c.requires.0,
  (done c.args.self.now c.args._p (λ p m. counted m) c.requires.0 c.requires.1, refl),
)
