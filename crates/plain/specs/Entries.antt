-- The routes that a row of entries holds.
-- Assumes nothing.
use Rattle.std.specs.Prelude.{ℕ, List, map, reverse}
use Rattle.routes.specs.declared.prefix.Prefix.{Prefix}
use Rattle.routes.specs.Routes.{Route}
use Rattle.plain.specs.declared.entry.Entry.{Entry}

-- what stands where there is no route
abbrev pub blank : Entry
blank = record { prefix = record { len = 0; bits = 0; clean = tt }; tells = 0 }

-- the route of a prefix, and of an entry
abbrev pub route_for : Prefix → ℕ → Route
route_for p tells = record { len = p.len; bits = p.bits; tells = tells }

abbrev pub route_of : Entry → Route
route_of e = route_for e.prefix e.tells

-- the routes of a row of entries, the newest first
abbrev pub routes_of : List Entry → List Route
routes_of es = map route_of (reverse es)
