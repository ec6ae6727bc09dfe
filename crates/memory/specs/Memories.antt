-- The memory that lent slices stand for.
-- Assumes nothing.
use Rattle.std.specs.Prelude.{◌≡◌, ℕ, ◌<◌, Bool, List}
use Rattle.routes.specs.Memory.{Mem}
use Rattle.memory.specs.Words.{val_of}
use Rattle.memory.specs.Pools.{held_of}
use Rattle.memory.specs.Rings.{row_of}
use Rattle.memory.specs.declared.row.LateStore.{LateStore}
use Rattle.memory.specs.declared.row.Row.{Row}
use Rattle.memory.specs.declared.shared.SharedMemory.{SharedMemory}

-- the memory with these words, these marks and these rows of late stores
abbrev pub mem_at : (cpus blocks room : ℕ) → List ℕ → List Bool → List LateStore → List Row → (left who : ℕ) → Mem
mem_at cpus blocks room ws hs ls rs left who = record { cpus = cpus; blocks = blocks; val = val_of ws; held = held_of hs; late = row_of ls room rs; left = left; who = who }

abbrev pub mem_of : SharedMemory → Mem
mem_of s = mem_at s.layout.cpus s.layout.blocks s.layout.room s.words.now s.held.now s.late.now s.rows s.left s.who

-- may a processor ask for a fence or a block
abbrev pub MayAsk : Mem → ℕ → Type 0
MayAsk m p = (0 < m.left) × (p ≡ m.who) × (p < m.cpus)
