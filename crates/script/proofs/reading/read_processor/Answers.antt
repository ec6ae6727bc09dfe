use Rattle.std.proofs.Common.{sym, ap, ◌∙◌, arith}
use Rattle.std.specs.Option.{ok_or}
use Rattle.script.specs.declared.expected.Expected.TheVariants as expected
use Rattle.script.proofs.Numbered.{processor_read, processor_over, processor_unread}
use Rattle.script.proofs.reading.read_processor.Goals as goal

pub returns-then-number-from : goal.returns-then-number-from
returns-then-number-from g c =
    c.ok_or.ensures.value ∙ ap (λ o. ok_or o (expected.Processor c.args.cpus)) c.new.ensures ∙
    sym (processor_read g.row.MOST c.args.cpus c.args.word.now c.in-Ok.number c.in-Ok.ensures (omega arith))

pub returns : goal.returns
returns g c = sym (processor_over g.row.MOST c.args.cpus c.args.word.now c.in-Ok.number c.in-Ok.ensures (omega arith))

pub returns-in_default : goal.returns-in_default
returns-in_default g c = sym (processor_unread g.row.MOST c.args.cpus c.args.word.now c.in_default.field-0 (omega (arith, c.ranges.cpus.fits)) c.in_default.ensures)
