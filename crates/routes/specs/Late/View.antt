-- What a processor sees of the words that nobody else writes while it has the writer's lock.
-- Assumes nothing.
use Rattle.std.specs.Prelude.{ℕ, Bool, cond, ◌&&◌, ◌||◌, ◌==◌, nat_le}
use Rattle.routes.specs.Memory.{Mem, sees}

-- the words of block 0 that others write too: the writer's lock, and from word 16 on what lookups announce
abbrev pub masked : ℕ → ℕ → Bool
masked b w = b == 0 && (w == 0 || nat_le 16 w)

-- what h sees, and 0 at the masked words
unfoldable pub view : ℕ → Mem → ℕ → ℕ → ℕ
view h m b w = cond (masked b w) 0 (sees h b w m)
