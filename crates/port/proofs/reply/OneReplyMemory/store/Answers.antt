use Rattle.std.proofs.Common.{refl}
use Rattle.routes.specs.Memory.{counted, stored}
use Rattle.port.proofs.Replying.{done}
use Rattle.port.proofs.reply.OneReplyMemory.store.Goals as goal

pub returns : goal.returns
returns c =
    (done c.args.self.now c.args._p (λ p m. counted (stored p c.args.block c.args.word c.args.x m)) c.requires.0 c.requires.1, refl)
