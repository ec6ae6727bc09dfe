use Rattle.std.proofs.Common.{◌∙◌, rules, ap}
use Rattle.arrayvec.proofs.ArrayVecLemmas.{filter-from_retain}
use Rattle.plain.specs.Entries.{routes_of}
use Rattle.plain.proofs.RouteLists.{routes_without}
use Rattle.plain.proofs.draft.Draft.take_out.Goals as goal

pub returns-clause-routes : goal.returns-clause-routes
returns-clause-routes c = ap routes_of (filter-from_retain _ _ _ (λ x b f' y called. search rules) _ _ c.retain.ensures.filtered) ∙ routes_without c.args.prefix _
