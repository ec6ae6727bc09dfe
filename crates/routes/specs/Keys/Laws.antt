-- What is proved of keys: clean prefixes and keys are the same, one for one, up to and including length 32.
-- Assumes nothing.
use Rattle.std.specs.Prelude.{◌≡◌, ℕ, ◌&&◌, List, ◌==◌}
use Rattle.words.specs.Address.{place}
use Rattle.routes.specs.Table.Tables.{Clean}
use Rattle.routes.specs.Keys.Keys.{way_of, same, Key, len_of, bits_of}

-- Each clean prefix has a key.
abbrev pub PrefixKey : Type 0
PrefixKey = (len bits : ℕ) → Clean len bits → Key (way_of len bits) (place len bits)

-- No two have the same.
abbrev pub KeysApart : Type 0
KeysApart =
    (l b m c : ℕ) → Clean l b → Clean m c → (same (way_of l b) (way_of m c) && place l b == place m c) ≡ (l == m && b == c)

-- Each key is that of a clean prefix.
abbrev pub KeyPrefix : Type 0
KeyPrefix =
    (ns : List ℕ) (x : ℕ) → Key ns x → Clean (len_of ns x) (bits_of ns x) × (way_of (len_of ns x) (bits_of ns x) ≡ ns) × (place (len_of ns x) (bits_of ns x) ≡ x)
