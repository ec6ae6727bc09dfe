use Rattle.std.proofs.Common.{◌≡◌, ◌&&◌, eqb, arith}
use Rattle.std.proofs.lemmas.Bool.Decides.{nat_tests}
use Rattle.memory.proofs.Looking.{put_told}
use Rattle.memory.proofs.late_row.LateRow.put_by.Goals as goal
use Rattle.memory.proofs.late_row.LateRow.put_by.Goals.{then-block-store, else-block-store}

pub returns : goal.returns
returns c =
    let store = c.store-store.result in
    let goes : c.if-block-store.then_some ≡ (eqb c.args.block store.block && eqb c.args.word store.word) = elim c.if-block-store.branch [
      | then-block-store w ↦ (let e = w.then_some-is in let g = w.if-block-store in grind (arith, nat_tests))
      | else-block-store w ↦ (let e = w.then_some-is in let g = w.if-block-store in grind (arith, nat_tests))
    ] in
    let self = c.args.self.now in
    rw (c.then_some.ensures, c.store-store.ensures) (put_told self.late.now self.room self.p self.row.first c.args.k c.args.block c.args.word _ (rw c.store-store.ensures at goes))
