-- What it says that a block was got from the pool, or that there was none.
use Rattle.std.proofs.Common.{◌≡◌, ℕ, ◌<◌, true, false, Some, None}
use Rattle.routes.specs.Memory.{Mem, counted, Arrives, Obtains, got, out}
use Rattle.routes.specs.Late.Steps.{obtained}
use Rattle.routes.proofs.Basics.Tests.{T_true}

-- block b was free and is got; words are then `words`, which elsewhere are as they were
pub record Got (m : Mem) (b : ℕ) (n : Mem) : Type 0 where
  pub words : ℕ → ℕ → ℕ
  pub inside : b < m.blocks
  pub free : m.held b ≡ false
  pub same : (c w : ℕ) → (c ≡ b → ⊥) → words c w ≡ m.val c w
  pub small : (w : ℕ) → words b w < 18446744073709551616
  pub arrives : Arrives (counted (obtained b words m)) n

-- Some block is one that was free.
pub obtains_some : {m : Mem} {b : ℕ} {n : Mem} → Obtains m (Some b) n → Got m b n
obtains_some (got b v n inside free same small a) = record { words = v; inside = inside; free = free; same = same; small = small; arrives = a }

-- None is got only if all are held.
pub obtains_none : {m n : Mem} → Obtains m None n → ((b : ℕ) → b < m.blocks → m.held b ≡ true) × Arrives (counted m) n
obtains_none {m} (out n all a) = ((λ b l. T_true (m.held b) (all b l)), a)
