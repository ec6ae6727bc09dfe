use Rattle.std.proofs.Common.{◌<◌, get_or, sym, refl, ap, arith}
use Rattle.routes.specs.Memory.{rest}
use Rattle.memory.specs.declared.layout.Layout.{Layout}
use Rattle.memory.specs.Rings.{no_row}
use Rattle.memory.specs.Memories.{mem_of}
use Rattle.memory.proofs.Rings.{row-length, row_roomy}
use Rattle.memory.proofs.Memories.{some_any}
use Rattle.memory.proofs.Arrivals.{oldest_shorter, store_later}
use Rattle.memory.proofs.shared.SharedMemory.make_room.Goals as goal

pub returns-then-self-p : goal.returns-then-self-p
returns-then-self-p c =
    let self = c.args.self.now in
    let after = c.arrive.new.self in
    let any = sym (some_any self.late.now self.layout.room self.rows c.args.p (omega (arith, c.if-self-p.true, self.layout.roomy))) in
    let long = row-length self.late.now self.layout.room c.args.p (get_or self.rows c.args.p no_row).first (get_or self.rows c.args.p no_row).many in
    let shorter = oldest_shorter c.args.p (mem_of self) (mem_of after) c.arrive.ensures.arrives any in
    record {
      later = store_later c.args.p (mem_of self) (mem_of after) c.arrive.ensures.arrives any;
      room = omega (arith, c.if-self-p.true, ap (λ (l : Layout). l.room) c.arrive.ensures.same);
      same = ap (λ (l : Layout). l.blocks) c.arrive.ensures.same;
    }

pub returns-else-self-p : goal.returns-else-self-p
returns-else-self-p c =
    let self = c.args.self.now in
    let less : (get_or self.rows c.args.p no_row).many < self.layout.room = omega (arith, c.if-self-p.false, (self.inside c.args.p).1) in
    record { later = λ b w x. rest _; room = row_roomy self.late.now self.layout.room self.rows c.args.p less; same = refl }
