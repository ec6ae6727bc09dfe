-- What a change makes of a table, or why it has no effect.
-- Assumes nothing.
use Rattle.std.specs.Prelude.{◌≡◌, ◌<◌, List, length, take, Ok, Err, Result}
use Rattle.arrayvec.specs.ArrayVec.{array_vec_len}
use Rattle.routes.specs.declared.Piece.{Piece}
use Rattle.routes.specs.declared.refusal.Refusal.{Refusal}
use Rattle.routes.specs.Refusals.{number_of}
use Rattle.routes.specs.Routes.{Route, Table, Wrong, piece, pieces, changed}
use Rattle.plain.specs.declared.change_error.ChangeError.{ChangeError}
use Rattle.plain.specs.declared.change_error.ChangeError.TheVariants.{Refused, NoRoom}
use Rattle.plain.specs.declared.draft.Draft.{Draft}
use Rattle.plain.specs.declared.entry.Entry.{Entry}
use Rattle.plain.specs.declared.table.PlainTable.{PlainTable}
use Rattle.plain.specs.Tables.{table_routes, draft_routes}

-- what one piece makes of the routes before, or why it is turned away
abbrev pub Applied : Piece → List Route → Result (Unit {0}) Refusal → List Route → Type 0
Applied p before (Ok _) after = piece p before ≡ Table after
Applied p before (Err k) after = piece p before ≡ Wrong (number_of k)

-- the same of all pieces
abbrev pub AppliedAll : List Piece → List Route → Result (Unit {0}) Refusal → List Route → Type 0
AppliedAll ps before (Ok _) after = pieces ps (Table before) ≡ Table after
AppliedAll ps before (Err k) after = pieces ps (Table before) ≡ Wrong (number_of k)

-- a copy after all the pieces of a change, whose count is right; or why they are turned away
abbrev pub Drafted : List Piece → List Route → Result (Unit {0}) Refusal → Draft → Type 0
Drafted ps before (Ok _) d = (changed ps before ≡ Table (draft_routes d)) × (length (draft_routes d) ≡ array_vec_len d.entries)
Drafted ps before (Err k) d = changed ps before ≡ Wrong (number_of k)

-- the entries of a table are these; or they are more than it has room for, and it is as it was
abbrev pub Kept : List Entry → PlainTable → Result (Unit {0}) ChangeError → PlainTable → Type 0
Kept es before (Ok _) after = take after.many after.entries ≡ es
Kept es before (Err why) after = (why ≡ NoRoom) × (2048 < length es) × (after ≡ before)

-- the pieces of a change come to more routes than a table has room for
pub record NoRoomFor (ps : List Piece) (before : List Route) : Type 0 where
  pub routes : List Route
  pub made : changed ps before ≡ Table routes
  pub many : 2048 < length routes

-- A change: the table is what the pieces make of it; or they are turned away, or come to more routes than there is room for, and it is as it was.
abbrev pub Changed : List Piece → PlainTable → Result (Unit {0}) ChangeError → PlainTable → Type 0
Changed ps before (Ok _) after = changed ps (table_routes before) ≡ Table (table_routes after)
Changed ps before (Err (Refused k)) after = (changed ps (table_routes before) ≡ Wrong (number_of k)) × (after ≡ before)
Changed ps before (Err NoRoom) after = NoRoomFor ps (table_routes before) × (after ≡ before)
