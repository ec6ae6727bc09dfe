use Rattle.std.proofs.Common.{rules}
use Rattle.export.specs.Begins.{piece_in}
use Rattle.export.proofs.Calls.{made}
use Rattle.export.proofs.begin.pieces_in.Goals as goal

pub returns : goal.returns
returns c = made _ (piece_in c.args.words.now) _ (λ k y q called. search rules) c.from_fn.result 8 (piece_in c.args.words.now 0) c.from_fn.ensures.items
