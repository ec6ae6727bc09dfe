use Rattle.std.proofs.Common.{◌≡◌, ◌≢◌, refl, get_or, arith, rules}
use borrow.Author.Tests.{tests}
use Rattle.std.proofs.lemmas.Iterator.{cases_from_all, YieldsList-from_range}
use Rattle.memory.specs.Rings.{no_store, place_of}
use Rattle.memory.proofs.Looking.{row_told, range_told}
use Rattle.memory.proofs.late_row.LateRow.none_to.Goals as goal

pub returns : goal.returns
returns c =
    let self = c.args.self.now in
    let told = cases_from_all _ _ _ (λ k. c.args.block ≢ (get_or self.late.now (place_of self.room self.p self.row.first k) no_store).block) (λ k. c.args.block ≡ (get_or self.late.now (place_of self.room self.p self.row.first k) no_store).block) c.all.ensures.ran (YieldsList-from_range 0 self.row.many self.row.many refl (omega arith)) (λ x q k. search (rules, tests)) (λ x q k. search (rules, tests)) in
    row_told _ _ _ _ _ _ _ (range_told _ _ _ _ told)
