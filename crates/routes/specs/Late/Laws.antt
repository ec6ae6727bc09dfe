-- What is promised of late stores, each a theorem that a contract names.
-- Assumes nothing.
use Rattle.std.specs.Prelude.{◌≡◌, ℕ, false, cond, ◌&&◌, [], ◌==◌}
use Rattle.routes.specs.Memory.{Mem, set_val, sees, stored, fenced, Arrives}
use Rattle.routes.specs.Late.Rows.{OnlyLate}
use Rattle.routes.specs.Late.View.{masked, view}

-- 1. Who alone has late stores does not see them arrive.
abbrev pub ArrivesUnseen : Type 0
ArrivesUnseen = (h : ℕ) (m n : Mem) → OnlyLate h m → Arrives m n → ((b w : ℕ) → sees h b w n ≡ sees h b w m) × (view h n ≡ view h m)

-- 2. A fence is arriving, and leaves nothing of its processor late.
abbrev pub FenceArrives : Type 0
FenceArrives = (p : ℕ) (m : Mem) → Arrives m (fenced p m) × ((fenced p m).late p ≡ [])

-- 3. Its own processor sees a store at once, as in memory without late stores, and nobody else sees it before it arrives.
abbrev pub OwnStores : Type 0
OwnStores =
    (p b w x : ℕ) (m : Mem) →
    ((q c v : ℕ) → sees q c v (stored p b w x m) ≡ cond (q == p && (c == b && v == w)) x (sees q c v m)) ×
    (masked b w ≡ false → view p (stored p b w x m) ≡ set_val b w x (view p m))

-- 4. Who has no late stores sees what is there.
abbrev pub NoneLate : Type 0
NoneLate = (p b w : ℕ) (m : Mem) → m.late p ≡ [] → sees p b w m ≡ m.val b w
