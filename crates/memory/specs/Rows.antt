-- The stores of one processor's row.
-- Assumes nothing.
use Rattle.std.specs.Prelude.{ℕ, List}
use Rattle.routes.specs.Memory.{Store}
use Rattle.memory.specs.Rings.{row_from}
use Rattle.memory.specs.declared.late_row.LateRow.{LateRow}

-- the oldest n, and all
abbrev pub first_stores : LateRow → ℕ → List Store
first_stores r n = row_from r.late.now r.room r.p r.row.first n

abbrev pub stores_of : LateRow → List Store
stores_of r = first_stores r r.row.many
