-- What is proved of tables.
-- Assumes nothing.
use Rattle.std.specs.Prelude.{◌≡◌, ℕ, ◌+◌, true, false, cond, ◌&&◌, List, length, ◌==◌}
use Rattle.routes.specs.declared.Piece.{Piece}
use Rattle.routes.specs.Routes.{Route, clean, find, without, has, Table, Wrong, piece, pieces}
use Rattle.routes.specs.Counts.Counts.{bit}
use Rattle.routes.specs.Table.Tables.{Fine, Unique}
use Rattle.routes.specs.Table.Lookups.{lookup, lookups, seek, word_after, decides}

-- What is found for an address is the first of its own prefixes that is there, the longest first.
abbrev pub FindByLookups : Type 0
FindByLookups = (a : ℕ) (rs : List Route) → Fine rs → seek (lookups a rs) 33 ≡ find a rs

-- A piece changes the lookup of its own length and bits, and no other.
abbrev pub PieceLookups : Type 0
PieceLookups =
    (p : Piece) (rs qs : List Route) → piece p rs ≡ Table qs →
    (len bits : ℕ) → lookup len bits qs ≡ cond (len == p.len && bits == p.bits) (word_after p) (lookup len bits rs)

-- A piece that puts makes one route more, and one goes if it was there.
abbrev pub PieceLengths : Type 0
PieceLengths =
    (p : Piece) (rs qs : List Route) → Unique rs → piece p rs ≡ Table qs → length qs + bit (has p.len p.bits rs) ≡ length rs + bit p.puts

-- Whether a route that a piece takes out is there, behind other pieces, is decided by the last of them with the same length and bits, or else by the table before.
abbrev pub TakesDecided : Type 0
TakesDecided =
    (ps : List Piece) (p : Piece) (rs qs : List Route) → pieces ps (Table rs) ≡ Table qs → clean p.len p.bits ≡ true → p.puts ≡ false →
    piece p qs ≡ cond (decides p.len p.bits ps (has p.len p.bits rs)) (Table (without p.len p.bits qs)) (Wrong 3)
