use Rattle.std.proofs.Common.{sym, refl, ap, ◌∙◌}
use Rattle.routes.specs.Routes.{Wrong}
use Rattle.hall.proofs.Pieces.{told_few, many}
use Rattle.hall.proofs.player.change.Goals as goal

pub returns-then-size-gt8 : goal.returns-then-size-gt8
returns-then-size-gt8 c = (many _ _ _ c.if-size-gt8.true c.told-pieces ∙ ap Wrong (sym c.from.ensures), refl)

pub returns : goal.returns
returns c =
    told_few c.args.size c.args.pieces.now c.args.table.now c.change.result _ c.change.new.self
    c.if-size-gt8.false c.change.ensures c.outcome.ensures
