-- Rows of late stores: what holds of each store of a row, and who has any.
-- Assumes nothing.
use Rattle.std.specs.Prelude.{◌≡◌, ℕ, List, [], ◌∷◌, ◌≢◌}
use Rattle.routes.specs.Memory.{Store, Mem}

-- a store of x to a word of a block
abbrev pub store_of : ℕ → ℕ → ℕ → Store
store_of b w x = record { block = b; word = w; x = x }

-- P of the block, the word and the value of each store of a row
unfoldable pub AllRow : (ℕ → ℕ → ℕ → Type 0) → List Store → Type 0
AllRow P [] = Unit {0}
AllRow P (s ∷ ss) = P s.block s.word s.x × AllRow P ss

-- nobody but h has late stores
abbrev pub OnlyLate : ℕ → Mem → Type 0
OnlyLate h m = (q : ℕ) → (q ≢ h) → m.late q ≡ []
