use Rattle.std.proofs.Common.{refl}
use Rattle.routes.specs.Memory.{counted, fenced}
use Rattle.port.proofs.Replying.{done}
use Rattle.port.proofs.reply.OneReplyMemory.fence.Goals as goal

pub returns : goal.returns
returns c = (done c.args.self.now c.args._p (λ p m. counted (fenced p m)) c.requires.0 c.requires.1.0, refl)
