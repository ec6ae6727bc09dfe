use Rattle.port.proofs.Replies.{ready, replied}
use Rattle.port.proofs.turn.after.Goals as goal

pub step-requires-clause-ready : goal.step-requires-clause-ready
step-requires-clause-ready c = ready c.new-memory.result c.in_ok-asked.ensures (c.if-not-reply_fits.ensures.sound tt) c.new-memory.ensures

pub returns : goal.returns
returns c =
    replied c.new-memory.result c.in_ok-asked.ensures (c.if-not-reply_fits.ensures.sound tt) c.new-memory.ensures c.step.ensures.stepped
