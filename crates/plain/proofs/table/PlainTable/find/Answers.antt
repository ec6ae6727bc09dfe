use Rattle.std.proofs.Common.{◌≡◌, ◌∙◌, take, ap, rules, tests}
use Rattle.std.proofs.lemmas.Iterator.{YieldsList-from_slice}
use Rattle.std.proofs.lemmas.Iterator.Consumers.{YieldsList-from_filter}
use Rattle.std.specs.Option.{option_map}
use Rattle.plain.proofs.Longest.{found_of, fits_at, longest_found}
use Rattle.plain.proofs.Picked.{max_by_key_from_yields_List}
use Rattle.plain.proofs.table.PlainTable.find.Goals as goal

pub returns : goal.returns
returns c =
    let best = max_by_key_from_yields_List (λ e. e.prefix.len) c.max_by_key.result c.max_by_key.ensures.ran
    (YieldsList-from_filter _ (fits_at c.args.address) (YieldsList-from_slice (take c.args.self.now.many c.args.self.now.entries) cc) c.filter.ensures.closure (λ x b q k. search (rules, tests)))
    (λ x k q h. search (rules, tests)) in
    let told : c.map_or.result ≡ found_of (option_map (λ y. y.now) c.max_by_key.result) = search rules in
    told ∙ ap found_of best ∙ longest_found c.args.address (take c.args.self.now.many c.args.self.now.entries)
