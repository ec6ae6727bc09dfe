-- The pieces of a change as they are handed to a table.
use Rattle.std.proofs.Common.{◌≡◌, ℕ, ◌<◌, ◌≤◌, List, length, take, Ok, Err, Result, arith, length-append}
use Rattle.std.proofs.lemmas.Bool.Decides.{nat_tests}
use Rattle.routes.specs.Asked.{pieces_of}
use Rattle.routes.specs.Routes.{Route, Wrong, changed}
use Rattle.routes.specs.declared.Answer.{Answer}
use Rattle.routes.specs.declared.Ask.TheVariants.{Change}
use Rattle.routes.specs.declared.Piece.{Piece}
use Rattle.plain.specs.Changes.{Changed}
use Rattle.plain.specs.declared.change_error.ChangeError.{ChangeError}
use Rattle.plain.specs.declared.change_error.ChangeError.TheVariants.{Refused, NoRoom}
use Rattle.plain.specs.declared.table.PlainTable.{PlainTable}
use Rattle.hall.specs.Players.{ChangeTold, AskTold, outcome_of}

-- up to eight are the first of the row
few : (n : ℕ) (ps : List Piece) → n ≤ 8 → pieces_of (Change n) ps ≡ take n ps
unfolding pieces_of
few n ps h = grind (arith, nat_tests)

-- what a table makes of pieces is told
told : (ps : List Piece) (before : PlainTable) (e : Result (Unit {0}) ChangeError) (after : PlainTable) → Changed ps before e after → ChangeTold ps before (outcome_of e) after
told ps before (Ok _) after h = h
told ps before (Err (Refused k)) after h = h
told ps before (Err NoRoom) after h = h

-- and so is what it makes of the first of the row
pub told_few : (n : ℕ) (ps : List Piece) (before : PlainTable) (e : Result (Unit {0}) ChangeError) (r : Answer) (after : PlainTable) →
    n ≤ 8 → Changed (take n ps) before e after → r ≡ outcome_of e → AskTold (Change n) ps before r after
told_few n ps before e r after h k q = rw (few n ps h, q) (told (take n ps) before e after k)

-- more than eight are turned away
pub many : (n : ℕ) (ps : List Piece) (rs : List Route) → 8 < n → length ps ≡ 8 → changed (pieces_of (Change n) ps) rs ≡ Wrong 1
unfolding pieces_of
many n ps rs h e = let l = length-append ps ps in grind (arith, nat_tests)
