-- Which ends of a script are errors.
-- Assumes nothing.
use Rattle.std.specs.Prelude.{Bool, true, false}
use Rattle.hall.specs.declared.stop.Stop.{Stop}
use Rattle.hall.specs.declared.stop.Stop.TheVariants.{Wrong, LongLine, OutOfTurns, Unreadable, Unprintable}

abbrev pub is_error : Stop → Bool
is_error (Wrong e) = true
is_error LongLine = true
is_error OutOfTurns = false
is_error (Unreadable e) = true
is_error (Unprintable e) = true
