use Rattle.std.proofs.Common.{◌<◌, refl, ◌∙◌, arith}
use Rattle.std.proofs.lemmas.Bool.{ne_eqb}
use Rattle.memory.proofs.Starts.{start_val, start_kept, start_late, start_rows_in, start_stores_in, start_free, start_apart, start_count}
use Rattle.memory.proofs.shared.SharedMemory.new.Goals as goal

pub invariant_of-result : goal.invariant_of-result
invariant_of-result c =
    let layout = c.args.layout in
    let some : 0 < layout.blocks = omega (arith, layout.least) in
    let marked = c.hold_first.ensures in
    let stacked = c.stack_others.ensures in record {
      wide = c.clear_first.auto.words ∙ c.requires.wide;
      marked = c.hold_first.auto.held ∙ c.requires.marked;
      stacked = c.stack_others.auto.free ∙ c.requires.stacked;
      rowed = c.clear_rows.auto.late ∙ c.requires.rowed;
      sixteen = refl;
      unheld = start_free _ _ _ some marked stacked;
      apart = start_apart _ _ _ some marked stacked;
      counted = start_count _ _ _ some marked stacked;
      inside = start_rows_in _ layout.roomy;
      bound = start_stores_in _ _ some c.clear_rows.ensures;
    }

pub returns : goal.returns
returns c =
    let layout = c.args.layout in
    record {
      starts = (layout.some, layout.few, layout.least, layout.most, start_val _ c.clear_first.ensures.noughts, rw (c.hold_first.ensures 0) tt, (λ b h. c.hold_first.ensures b ∙ ne_eqb b 0 (omega arith)), start_late _ _);
      sized = (refl, refl);
      kept = λ b w h. start_kept _ _ c.clear_first.ensures.kept b w h;
    }
