-- What processors have under way, and what a turn tells.
-- Assumes nothing.
use Rattle.std.specs.Prelude.{◌≡◌, ℕ, ◌%◌, ◌<◌, Bool, true, false, List, take, count_by, is_some, Some, None, Ok, Err, Option, Result, slice_index_or, slice_set}
use Rattle.routes.specs.Asked.{pieces_of}
use Rattle.routes.specs.Refusals.{number_of}
use Rattle.routes.specs.Routes.{Table, Wrong, find, changed}
use Rattle.routes.specs.declared.Answer.{Answer}
use Rattle.routes.specs.declared.Answer.TheVariants.{Found, Nothing, Done, Full, No}
use Rattle.routes.specs.declared.Ask.{Ask}
use Rattle.routes.specs.declared.Ask.TheVariants.{Find, Change}
use Rattle.routes.specs.declared.Piece.{Piece}
use Rattle.plain.specs.Changes.{NoRoomFor}
use Rattle.plain.specs.Tables.{table_routes}
use Rattle.plain.specs.declared.change_error.ChangeError.{ChangeError}
use Rattle.plain.specs.declared.change_error.ChangeError.TheVariants.{Refused, NoRoom}
use Rattle.plain.specs.declared.table.PlainTable.{PlainTable}
use Rattle.script.specs.declared.processor.Processor.{Processor}
use Rattle.script.specs.declared.request.Request.{Request}
use Rattle.hall.specs.declared.player.Player.{Player}

-- what a processor has under way
abbrev pub job_of : Player → ℕ → Option Request
job_of g p = slice_index_or g.jobs p None

-- Something begins on a processor that has nothing under way; else all stays as it was.
abbrev pub Begun : Option Request → ℕ → Request → Player → Bool → Player → Type 0
Begun None p j before r after = (r ≡ true) × (after.jobs ≡ slice_set before.jobs p (Some j)) × (after.table ≡ before.table)
Begun (Some k) p j before r after = (r ≡ false) × (after ≡ before)

-- what a change of these pieces tells, and the table after it
abbrev pub ChangeTold : List Piece → PlainTable → Answer → PlainTable → Type 0
ChangeTold ps before Done after = changed ps (table_routes before) ≡ Table (table_routes after)
ChangeTold ps before (No k) after = (changed ps (table_routes before) ≡ Wrong k) × (after ≡ before)
ChangeTold ps before Full after = NoRoomFor ps (table_routes before) × (after ≡ before)
ChangeTold ps before Nothing after = ⊥
ChangeTold ps before (Found len tells) after = ⊥

-- what is told of how a change went
abbrev pub outcome_of : Result (Unit {0}) ChangeError → Answer
outcome_of (Ok _) = Done
outcome_of (Err (Refused k)) = No (number_of k)
outcome_of (Err NoRoom) = Full

-- what is told of what was asked, and the table after it
abbrev pub AskTold : Ask → List Piece → PlainTable → Answer → PlainTable → Type 0
AskTold (Find a) ps before r after = (r ≡ find a (table_routes before)) × (after ≡ before)
AskTold (Change n) ps before r after = ChangeTold (pieces_of (Change n) ps) before r after

-- it is told, and its processor has nothing under way
pub record JobTold (j : Request) (p : ℕ) (before : Player) (r : Answer) (after : Player) : Type 0 where
  pub told : AskTold j.ask j.pieces before.table r after.table
  pub jobs : after.jobs ≡ slice_set before.jobs p None

-- A turn of a processor: what it has under way is told; where it has nothing, all stays as it was.
abbrev pub Turned : Option Request → ℕ → Player → Option Answer → Player → Type 0
Turned None p before r after = (r ≡ None) × (after ≡ before)
Turned (Some j) p before None after = ⊥
Turned (Some j) p before (Some a) after = JobTold j p before a after

-- how many of the first n processors have something under way
abbrev pub busy_below : List (Option Request) → ℕ → ℕ
busy_below js n = count_by is_some (take n js)

-- the processor that has something under way and before which k have
pub record IsNth (js : List (Option Request)) (k : ℕ) (p : ℕ) : Type 0 where
  pub within : p < 4
  pub busy : is_some (slice_index_or js p None) ≡ true
  pub before : busy_below js p ≡ k

-- Of m processors that have something under way, the one that a number chooses by its rest by m; none where m is 0.
abbrev pub Chosen : List (Option Request) → ℕ → Option (Processor 4) → Type 0
Chosen js x None = busy_below js 4 ≡ 0
Chosen js x (Some p) = IsNth js (x % busy_below js 4) p.number
