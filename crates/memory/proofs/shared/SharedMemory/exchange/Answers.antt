use Rattle.std.proofs.Common.{◌<◌, length, get_or, sym, ap, ◌∙◌, rules}
use Rattle.routes.specs.Memory.{Mem}
use Rattle.memory.proofs.Arrivals.{arrives_same, swap_hit, swap_miss}
use Rattle.memory.proofs.Words.{val_read}
use Rattle.memory.proofs.Memories.{word_set}
use Rattle.memory.proofs.shared.SharedMemory.exchange.Goals as goal

pub returns-then-was-old : goal.returns-then-was-old
returns-then-was-old c =
    let self = c.arrive_all.new.self in
    let fits : get_or self.words.now c.word_at-at.result 0 < 18446744073709551616 = search rules in
    let inside : c.word_at-at.result < length self.words.now = search rules in
    let read = val_read self.words.now c.args.block c.args.word c.word_at-at.result c.word_at-at.ensures c.requires.5 fits in
    let was = ap (λ (m : Mem). m.val c.args.block c.args.word) c.arrive_all.ensures in
    record { was = sym read ∙ was; then = arrives_same (sym (swap_hit _ _ _ _ _ _ _ _ c.arrive_all.ensures (read ∙ c.if-was-old.true) (word_set _ _ _ _ _ _ _ _ _ c.args.block c.args.word _ _ c.word_at-at.ensures c.requires.5 inside c.ranges.new.fits))) }

pub returns-else-was-old : goal.returns-else-was-old
returns-else-was-old c =
    let self = c.arrive_all.new.self in
    let fits : get_or self.words.now c.word_at-at.result 0 < 18446744073709551616 = search rules in
    let read = val_read self.words.now c.args.block c.args.word c.word_at-at.result c.word_at-at.ensures c.requires.5 fits in
    let was = ap (λ (m : Mem). m.val c.args.block c.args.word) c.arrive_all.ensures in
    record { was = sym read ∙ was; then = arrives_same (sym (swap_miss _ _ _ _ _ _ _ c.arrive_all.ensures (λ e. c.if-was-old.false (sym read ∙ e)))) }
