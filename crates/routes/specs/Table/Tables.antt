-- What every table is: its routes are clean, none is there twice, and what they tell has 32 bits.
-- Assumes nothing.
use Rattle.std.specs.Prelude.{◌≡◌, ℕ, ◌-◌, ◌%◌, ◌^◌, ◌<◌, ◌≤◌, false, T, List, [], ◌∷◌}
use mathlib.Core.List.{Memᴰ}
use Rattle.routes.specs.Routes.{Route, clean, has}

-- bits behind the first len of 32 are 0
pub record Clean (len bits : ℕ) : Type 0 where
  pub short : len ≤ 32
  pub small : bits < 2 ^ 32
  pub rest : bits % 2 ^ (32 - len) ≡ 0

-- every route is clean, and no other has its length and bits
pub record Fine (rs : List Route) : Type 0 where
  pub alone : (q r : Route) → Memᴰ q rs → Memᴰ r rs → q.len ≡ r.len → q.bits ≡ r.bits → q ≡ r
  pub tidy : (q : Route) → Memᴰ q rs → T (clean q.len q.bits)

-- no length and bits twice
unfoldable pub Unique : List Route → Type 0
Unique [] = Unit {0}
Unique (r ∷ rs) = (has r.len r.bits rs ≡ false) × Unique rs

-- what is told has 32 bits
abbrev pub Small : List Route → Type 0
Small rs = (q : Route) → Memᴰ q rs → q.tells < 2 ^ 32

-- all of these
pub record Sound (rs : List Route) : Type 0 where
  pub fine : Fine rs
  pub unique : Unique rs
  pub small : Small rs
