-- Slot words and route words.
-- Assumes nothing.
use Rattle.std.specs.Prelude.{◌≡◌, ℕ, zero, suc, ◌+◌, ◌*◌, ◌/◌, ◌%◌, ◌^◌, ◌<◌, cond, Some, None, Option, ◌==◌}
use Rattle.words.specs.declared.slot.Fit.{Fit}
use Rattle.words.specs.declared.slot.Slot.{Slot}
use Rattle.words.specs.Address.{candidate}

-- the fields of a fit are within those of a slot word
abbrev pub InRange : Option Fit → Type 0
InRange None = Unit {0}
InRange (Some f) = (f.extra < 4) × (f.tells < 2 ^ 32)

-- a route word is 0 where there is no route
unfoldable pub route_word : ℕ → ℕ
route_word tells = 2 ^ 32 + tells

-- a route word of extra length x goes before what fitted till then
unfoldable pub fit_or : ℕ → ℕ → Option Fit → Option Fit
fit_or x w best = cond (w == 0) best (Some (record { extra = x; tells = w % 2 ^ 32 }))

-- the longest route of extra length below k that fits slot n
unfoldable pub fit_below : ℕ → (ℕ → ℕ) → ℕ → Option Fit
fit_below zero routes n = None
fit_below (suc k) routes n = fit_or k (routes (candidate k n)) (fit_below k routes n)

-- the longest route of a node that fits slot n
abbrev pub best_fit : (ℕ → ℕ) → ℕ → Option Fit
best_fit routes n = fit_below 4 routes n

-- bits 0 to 19 the child, 20 to 51 what is told, 52 and 53 the extra length, 54 whether there is a route
unfoldable pub slot_word : ℕ → Option Fit → ℕ
slot_word child None = child
slot_word child (Some f) = child + 2 ^ 20 * f.tells + 2 ^ 52 * f.extra + 2 ^ 54

-- and back
unfoldable pub child_of : ℕ → ℕ
child_of x = x % 2 ^ 20

unfoldable pub fit_of : ℕ → Option Fit
fit_of x = cond (x / 2 ^ 54 % 2 == 1) (Some (record { extra = x / 2 ^ 52 % 4; tells = x / 2 ^ 20 % 2 ^ 32 })) None

abbrev pub slot_of : ℕ → Slot
slot_of x = record { child = child_of x; fit = fit_of x }

-- a packed slot, unpacked, is the slot
abbrev pub UnpacksWhatItPacks : Type 0
UnpacksWhatItPacks = (s : Slot) → s.child < 2 ^ 20 → InRange s.fit → slot_of (slot_word s.child s.fit) ≡ s
