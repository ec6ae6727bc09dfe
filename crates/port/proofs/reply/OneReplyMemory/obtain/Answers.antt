use Rattle.std.proofs.Common.{refl}
use Rattle.port.proofs.Replying.{obtains}
use Rattle.port.proofs.reply.OneReplyMemory.obtain.Goals as goal

pub returns : goal.returns
returns c = (obtains c.args.self.now c.requires.0, refl)
