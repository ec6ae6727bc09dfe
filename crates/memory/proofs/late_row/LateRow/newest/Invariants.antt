use Rattle.std.proofs.Common.{◌≡◌, ℕ}
use Rattle.routes.specs.Memory.{last_late}
use Rattle.memory.specs.Rows.{first_stores, stores_of}
use Rattle.memory.proofs.late_row.LateRow.newest.Given as goal

abbrev pub invariant-loop-k : goal.invariant-loop-k
invariant-loop-k l = (old : ℕ) → last_late l.block l.word (stores_of l.self) old ≡ last_late l.block l.word (first_stores l.self l.k) old
