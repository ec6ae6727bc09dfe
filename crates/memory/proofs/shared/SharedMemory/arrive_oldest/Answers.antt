use Rattle.std.proofs.Common.{◌≡◌, ◌-◌, ◌+◌, ◌*◌, ◌<◌, ◌≤◌, length, get_or, sym, refl, ap, arith, rules}
use Rattle.std.proofs.lemmas.List.{get_or_past}
use Rattle.memory.specs.declared.row.Row.{Row}
use Rattle.memory.specs.Rings.{no_row}
use Rattle.memory.proofs.Memories.{none_landed, store_landed}
use Rattle.memory.proofs.Rings.{first_none, first_some}
use Rattle.memory.proofs.shared.SharedMemory.arrive_oldest.Goals as goal

pub returns-in_err-row : goal.returns-in_err-row
returns-in_err-row c =
    let rows = c.args.self.now.rows in
    let past : length rows ≤ c.args.p = search rules in
    let none : (get_or rows c.args.p no_row).many ≡ 0 = ap (λ (r : Row). r.many) (get_or_past rows c.args.p no_row past) in
    record { arrives = none_landed _ _ _ _ _ _ _ _ _ c.args.p none; told = rw c.from_residual.ensures (sym (first_none _ _ c.args.p _ _ none)); same = refl }

pub returns-in_err-many : goal.returns-in_err-many
returns-in_err-many c =
    let row : c.in_ok-row.field-0.now ≡ get_or c.args.self.now.rows c.args.p no_row = search rules in
    let empty : c.in_ok-row.field-0.now.many ≡ 0 = search rules in
    let none : (get_or c.args.self.now.rows c.args.p no_row).many ≡ 0 = rw row at empty in
    record { arrives = none_landed _ _ _ _ _ _ _ _ _ c.args.p none; told = rw c.from_residual-in_err-many.ensures (sym (first_none _ _ c.args.p _ _ none)); same = refl }

pub returns : goal.returns
returns c =
    let self = c.args.self.now in
    let row : c.in_ok-row.field-0.now ≡ get_or self.rows c.args.p no_row = search rules in
    let left : c.in_ok-many.many ≡ c.in_ok-row.field-0.now.many - 1 = search rules in
    let any : 0 < c.in_ok-row.field-0.now.many = search rules in
    let some : 0 < (get_or self.rows c.args.p no_row).many = rw row at any in
    let inside : c.args.p < length self.rows = search rules in
    let within = self.inside c.args.p in
    let store = self.bound (16 * (get_or self.rows c.args.p no_row).first + c.args.p) in
    rw (left, row) (record {
      arrives = store_landed _ _ _ _ _ _ _ _ _ c.args.p _ _ _ inside within.0 some within.1 refl store.1 (omega (arith, self.wide)) store.2 (rw row at c.word_at.ensures) (rw row at c.wrap.ensures);
      told = sym (first_some _ _ c.args.p _ _ within.0 some within.1);
      same = refl;
    })
