-- The routes of a table, and of the copy that a change works on, the newest first.
-- Assumes nothing.
use Rattle.std.specs.Prelude.{◌≡◌, List, length, take}
use Rattle.routes.specs.Routes.{Route}
use Rattle.plain.specs.declared.draft.Draft.{Draft}
use Rattle.plain.specs.declared.table.PlainTable.{PlainTable}
use Rattle.plain.specs.Entries.{routes_of}

abbrev pub table_routes : PlainTable → List Route
table_routes t = routes_of (take t.many t.entries)

abbrev pub draft_routes : Draft → List Route
draft_routes d = routes_of d.entries.items

-- A table has as many routes as it counts.
abbrev pub CountsRoutes : Type 0
CountsRoutes = (t : PlainTable) → length (table_routes t) ≡ t.many
