use Rattle.std.proofs.Common.{rules}
use Rattle.routes.proofs.Machine.Pieces.{noted_none, noted_more}
use Rattle.routes.proofs.work.note_pieces.Goals as goal

pub loop-k-init : goal.loop-k-init
loop-k-init c = search (rules, noted_none c.args.pieces.now c.args.own.now)

pub loop-k-preserved : goal.loop-k-preserved
loop-k-preserved c = let n = noted_more _ _ c.loop-k.invariant c.in-Some.ensures.steps.1 c.from.ensures.fits in search (rules, n)
