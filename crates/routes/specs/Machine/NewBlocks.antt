-- The reply of a memory that was asked for a block, as a number.
-- Assumes nothing.
use Rattle.std.specs.Prelude.{ℕ, suc, Some, None, Option}
use Rattle.routes.specs.declared.pool.NewBlock.{NewBlock}

abbrev pub reply_of : Option NewBlock → ℕ
reply_of None = 0
reply_of (Some b) = suc b.0
