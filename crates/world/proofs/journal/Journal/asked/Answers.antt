use Rattle.std.proofs.Common.{◌∷◌, sym, ap, ◌∙◌}
use Rattle.routes.specs.declared.Ask.{Ask}
use Rattle.routes.specs.Asked.{pieces_of}
use Rattle.routes.specs.Routes.{Asked}
use Rattle.world.specs.Journals.{seen_of}
use Rattle.world.proofs.journal.Journal.asked.Goals as goal

pub returns-in-Find : goal.returns-in-Find
unfolding pieces_of
returns-in-Find c = record {
  seen = λ t. c.asked_find.ensures.seen t ∙ ap (λ (k : Ask). Asked c.args.p k (pieces_of k c.args.pieces.now) ∷ seen_of c.args.self.now) (sym c.in-Find.is);
  unseen = c.asked_find.ensures.unseen;
}
