use Rattle.std.proofs.Common.{◌≡◌, ℕ, Bool, true, false, refl, arith, rules}
use borrow.Author.Tests.{tests}
use Rattle.std.proofs.lemmas.Iterator.{cases_from_all, YieldsList-from_range}
use Rattle.routes.specs.Memory.{none_to}
use Rattle.routes.proofs.Basics.Tests.{T_true}
use Rattle.memory.specs.Rings.{row_of}
use Rattle.memory.proofs.Looking.{none_all, range_told}
use Rattle.memory.proofs.shared.SharedMemory.none_late_to.Goals as goal

pub returns-clause-none : goal.returns-clause-none
returns-clause-none c = λ t.
    (let self = c.args.self.now in
    let gone : Bool → ℕ → Type 0 = λ b q. none_to c.args.block (row_of self.late.now self.layout.room self.rows q) ≡ b in
    let told = cases_from_all _ _ _ (gone true) (gone false) c.all.ensures.ran (YieldsList-from_range 0 16 16 refl (omega arith)) (λ x q k. search (rules, tests)) (λ x q k. search (rules, tests)) in
    none_all _ _ _ _ self.sixteen (rw (T_true _ t) at (range_told 16 c.all.result (gone true) (gone false) told)))
