-- The rows of late stores, as rings: processor p has the places 16 * slot + p of one list, for each slot below the room.
-- Assumes nothing.
use Rattle.std.specs.Prelude.{ℕ, zero, suc, ◌+◌, ◌-◌, ◌*◌, ◌<◌, ◌≤◌, Bool, true, false, cond, List, [], ◌∷◌, ◌++◌, get_or, Some, None, Option, nat_lt, slice_index_or}
use Rattle.routes.specs.Memory.{Store}
use Rattle.memory.specs.declared.row.LateStore.{LateStore}
use Rattle.memory.specs.declared.row.Row.{Row}

-- what stands past the end
abbrev pub no_store : LateStore
no_store = record { block = 0; word = 0; x = 0 }

abbrev pub no_row : Row
no_row = record { first = 0; many = 0 }

abbrev pub store_of : LateStore → Store
store_of l = record { block = l.block; word = l.word; x = l.x }

-- slots go round
abbrev pub wrapped : ℕ → ℕ → ℕ
wrapped room s = cond (nat_lt s room) s (s - room)

-- where the store stands that is k behind the first of p's row
abbrev pub place_of : ℕ → ℕ → ℕ → ℕ → ℕ
place_of room p first k = 16 * wrapped room (first + k) + p

-- n stores of p's row, the oldest first
unfoldable pub row_from : List LateStore → ℕ → ℕ → ℕ → ℕ → List Store
row_from ls room p first zero = []
row_from ls room p first (suc n) = row_from ls room p first n ++ (store_of (slice_index_or ls (place_of room p first n) no_store) ∷ [])

-- the row of a processor
abbrev pub row_of : List LateStore → ℕ → List Row → ℕ → List Store
row_of ls room rs p = row_from ls room p (get_or rs p no_row).first (get_or rs p no_row).many

-- every row is within its room
abbrev pub RowsIn : ℕ → List Row → Type 0
RowsIn room rs = (p : ℕ) → ((get_or rs p no_row).first < room) × ((get_or rs p no_row).many ≤ room)

-- every store is of 64 bits to a word of a block
abbrev pub StoresIn : ℕ → List LateStore → Type 0
StoresIn blocks ls = (i : ℕ) → ((get_or ls i no_store).block < blocks) × ((get_or ls i no_store).word < 48) × ((get_or ls i no_store).x < 18446744073709551616)

-- is there a late store
unfoldable pub any_late : List Store → Bool
any_late [] = false
any_late (s ∷ ss) = true

-- the oldest late store
unfoldable pub first_of : List Store → Option Store
first_of [] = None
first_of (s ∷ ss) = Some s
