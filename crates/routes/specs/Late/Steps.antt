-- What a step does to memory, where Memory has no name for it.
-- Assumes nothing.
use Rattle.std.specs.Prelude.{ℕ, true, List}
use Rattle.routes.specs.Memory.{Store, Mem, set_at, set_val, with'}

-- the store s, the oldest of p's row, has arrived; ss is the rest of the row
abbrev pub landed : ℕ → Store → List Store → Mem → Mem
landed p s ss m = with' (set_val s.block s.word s.x m.val) m.held (set_at p ss m.late) m

-- one word is x for all, at once
abbrev pub set_word : ℕ → ℕ → ℕ → Mem → Mem
set_word b w x m = with' (set_val b w x m.val) m.held m.late m

-- block b was got from the pool, and words are now v
abbrev pub obtained : ℕ → (ℕ → ℕ → ℕ) → Mem → Mem
obtained b v m = with' v (set_at b true m.held) m.late m
