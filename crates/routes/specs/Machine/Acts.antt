-- What a turn asks of the memory: when it may, and what came of it.
-- Assumes nothing.
use Rattle.std.specs.Prelude.{◌≡◌, ℕ, zero, suc, ◌<◌, List, length, Some, None, Option}
use Rattle.routes.specs.declared.act.Act.{Act}
use Rattle.routes.specs.declared.act.Act.TheVariants.{Load, Store, Fence, Swap, Obtain, Release, Pause}
use Rattle.routes.specs.Memory.{Mem, MayTouch, MayRelease, Arrives, Obtains, sees, stored, fenced, swapped, released, counted}

abbrev pub MayDo : Mem → ℕ → Act → Type 0
MayDo m p (Load b w) = MayTouch m p b w
MayDo m p (Store b w x) = MayTouch m p b w
MayDo m p Fence = (0 < m.left) × (p ≡ m.who) × (p < m.cpus)
MayDo m p (Swap b w old new) = MayTouch m p b w
MayDo m p Obtain = (0 < m.left) × (p ≡ m.who) × (p < m.cpus)
MayDo m p (Release b) = MayRelease m p b
MayDo m p Pause = Unit {0}

-- The reply is one number: what was loaded, or was there before a swap; of a block that was got its number and 1, 0 for none; else 0.
abbrev pub got_of : ℕ → Option ℕ
got_of zero = None
got_of (suc b) = Some b

abbrev pub Did : ℕ → Act → Mem → ℕ → Mem → Type 0
Did p (Load b w) m x n = (x ≡ sees p b w m) × Arrives (counted m) n
Did p (Store b w y) m x n = (x ≡ 0) × Arrives (counted (stored p b w y m)) n
Did p Fence m x n = (x ≡ 0) × Arrives (counted (fenced p m)) n
Did p (Swap b w old new) m x n = (x ≡ (fenced p m).val b w) × Arrives (counted (swapped p b w old new m)) n
Did p Obtain m x n = Obtains m (got_of x) n
Did p (Release b) m x n = (x ≡ 0) × Arrives (counted (released b m)) n
Did p Pause m x n = (x ≡ 0) × (n ≡ m)

-- A turn may be taken: the registers are in their ranges, the own words are 4,096, and what is asked may be asked.
pub record PhaseReady (m : Mem) (p : ℕ) (asks : Act) (Ok : Type 0) (own : List ℕ) : Type 0 where
  pub ok : Ok
  pub room : length own ≡ 4096
  pub may : MayDo m p asks

-- A turn was taken: what was asked was done, and the reply gives what comes next.
pub record Moved {A : Type 0} (p : ℕ) (asks : Act) (next : ℕ → A) (m : Mem) (r : A) (n : Mem) : Type 0 where
  pub reply : ℕ
  pub did : Did p asks m reply n
  pub state : r ≡ next reply

-- The same, and the reply gives the own words too.
pub record MovedOwn {A : Type 0} (p : ℕ) (asks : Act) (next : ℕ → A) (words : ℕ → List ℕ) (m : Mem) (r : A) (n : Mem) (own : List ℕ) : Type 0 where
  pub reply : ℕ
  pub did : Did p asks m reply n
  pub state : r ≡ next reply
  pub kept : own ≡ words reply
