-- Which slices a memory can be made of.
-- Assumes nothing.
use Rattle.std.specs.Prelude.{◌≡◌, ℕ, ◌*◌, ◌%◌, cond, not, ◌||◌, Some, None, Option, ◌==◌, nat_lt}
use Rattle.memory.specs.declared.layout.Layout.{Layout}
use Rattle.memory.specs.declared.layout.MemoryError.{MemoryError}
use Rattle.memory.specs.declared.layout.MemoryError.TheVariants.{Cpus, Blocks, Words, Marks, Stack, Rows}

-- what is wrong with so many processors and blocks, or with the lengths of slices for them; the first that applies
abbrev pub misfit : ℕ → ℕ → ℕ → ℕ → ℕ → ℕ → Option MemoryError
misfit cpus blocks words marks stack late =
    cond (cpus == 0 || nat_lt 16 cpus) (Some Cpus)
    (cond (nat_lt blocks 256 || nat_lt 1048576 blocks) (Some Blocks)
    (cond (not (words == 48 * blocks)) (Some Words)
    (cond (not (marks == blocks)) (Some Marks)
    (cond (not (stack == blocks)) (Some Stack)
    (cond (late == 0 || not (late % 16 == 0)) (Some Rows) None)))))

-- slices of these lengths are right for a layout
pub record LentFor (l : Layout) (words marks stack late : ℕ) : Type 0 where
  pub wide : words ≡ 48 * l.blocks
  pub marked : marks ≡ l.blocks
  pub stacked : stack ≡ l.blocks
  pub rowed : late ≡ 16 * l.room

-- a layout is of so many processors and blocks, in slices of these lengths
pub record LaidOut (cpus blocks words marks stack late : ℕ) (l : Layout) : Type 0 where
  pub processors : l.cpus ≡ cpus
  pub size : l.blocks ≡ blocks
  pub lent : LentFor l words marks stack late
