-- The pool of blocks: a mark for each that is held, and a stack of those that are free.
-- Assumes nothing.
use Rattle.std.specs.Prelude.{◌≡◌, ℕ, ◌+◌, ◌<◌, Bool, false, List, slice_index, slice_index_or}
use Rattle.routes.specs.Counts.Counts.{sum, bit}

-- is a block held
abbrev pub held_of : List Bool → ℕ → Bool
held_of hs b = slice_index_or hs b false

-- how many of the first n blocks are held
abbrev pub held_count : ℕ → (ℕ → Bool) → ℕ
held_count n held = sum n (λ b. bit (held b))

-- the first n of the stack are blocks that nobody holds
abbrev pub StackFree : ℕ → List Bool → List ℕ → ℕ → Type 0
StackFree blocks hs fs n = (i : ℕ) → i < n → (slice_index fs i < blocks) × (held_of hs (slice_index fs i) ≡ false)

-- no block stands twice among them
abbrev pub StackApart : List ℕ → ℕ → Type 0
StackApart fs n = (i j : ℕ) → (i < n) × (j < n) × (slice_index fs i ≡ slice_index fs j) → i ≡ j

-- each block is held or on the stack
abbrev pub AllCounted : ℕ → List Bool → ℕ → Type 0
AllCounted blocks hs n = held_count blocks (held_of hs) + n ≡ blocks
