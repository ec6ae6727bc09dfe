use Rattle.std.proofs.Common.{◌∙◌, rules, tests}
use Rattle.std.proofs.lemmas.Iterator.{YieldsList-from_slice}
use Rattle.std.proofs.lemmas.Iterator.Search.{any_from_yields_List}
use Rattle.plain.proofs.RouteLists.{has_prefix, routes_have}
use Rattle.plain.proofs.draft.Draft.contains.Goals as goal

pub returns : goal.returns
returns c =
    any_from_yields_List (has_prefix c.args.prefix) _ _ _ c.any.ensures.ran (YieldsList-from_slice c.args.self.now.entries.items cc) (λ x b q k. search (rules, tests))
    ∙ routes_have c.args.prefix c.args.self.now.entries.items
