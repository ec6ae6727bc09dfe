-- Why a change is turned away, by number, and which length and bits are a prefix.
-- Assumes nothing.
use Rattle.std.specs.Prelude.{◌≡◌, ℕ, true, false, Ok, Err, Result}
use Rattle.routes.specs.declared.prefix.Prefix.{Prefix}
use Rattle.routes.specs.declared.refusal.Refusal.{Refusal}
use Rattle.routes.specs.declared.refusal.Refusal.TheVariants.{PieceCount, UncleanPrefix, AbsentRoute}
use Rattle.routes.specs.declared.refusal.UnknownRefusal.{UnknownRefusal}
use Rattle.routes.specs.Routes.{clean}

-- the number by which a refusal is told
abbrev pub number_of : Refusal → ℕ
number_of PieceCount = 1
number_of UncleanPrefix = 2
number_of AbsentRoute = 3

abbrev pub Numbers : Refusal → ℕ → Type 0
Numbers why n = n ≡ number_of why

-- the refusal that is told by that number, or that none is
abbrev pub Numbered : ℕ → Result Refusal UnknownRefusal → Type 0
Numbered n (Ok why) = number_of why ≡ n
Numbered n (Err e) = (e.0 ≡ n) × ((why : Refusal) → number_of why ≡ n → ⊥)

-- the prefix of that length and those bits exactly if they are clean, and else the refusal for that
abbrev pub PrefixOrRefusal : ℕ → ℕ → Result Prefix Refusal → Type 0
PrefixOrRefusal len bits (Ok p) = (clean len bits ≡ true) × (p.len ≡ len) × (p.bits ≡ bits)
PrefixOrRefusal len bits (Err k) = (clean len bits ≡ false) × (k ≡ UncleanPrefix)
