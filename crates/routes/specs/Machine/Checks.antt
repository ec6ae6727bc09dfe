-- Check: is each piece clean, and is what it takes out there?
-- Assumes nothing.
use Rattle.std.specs.Prelude.{◌≡◌, ℕ, ◌+◌, ◌*◌, ◌/◌, ◌<◌, ◌≤◌, true, cond, List, Ok, Err, Result, ◌==◌, nat_lt}
use Rattle.words.specs.Address.{nib, place}
use Rattle.words.specs.Slots.{child_of}
use Rattle.own.specs.Layout.{words_of}
use Rattle.own.specs.Pieces.{piece_of, earlier_of}
use Rattle.own.specs.declared.piece.Earlier.{Earlier}
use Rattle.own.specs.declared.piece.Earlier.TheVariants.{Never, Put, Taken}
use Rattle.own.specs.declared.piece.PieceWords.{PieceWords}
use Rattle.routes.specs.declared.Answer.TheVariants.{No}
use Rattle.routes.specs.declared.act.Act.{Act}
use Rattle.routes.specs.declared.act.Act.TheVariants.{Load, Swap, Pause}
use Rattle.routes.specs.declared.refusal.Refusal.{Refusal}
use Rattle.routes.specs.declared.refusal.Refusal.TheVariants.{UncleanPrefix, AbsentRoute}
use Rattle.routes.specs.declared.update.job.Job.{Job}
use Rattle.routes.specs.declared.update.check.Check.{Check}
use Rattle.routes.specs.declared.update.check.Check.TheVariants.{Piece, Root, Slot, Route, Reject}
use Rattle.routes.specs.declared.update.obtain.Obtain.TheVariants.{Get}
use Rattle.routes.specs.declared.update.Phase.TheVariants.{Check as InCheck, Obtain as InObtain}
use Rattle.routes.specs.Memory.{Mem}
use Rattle.routes.specs.Refusals.{number_of}
use Rattle.routes.specs.Routes.{clean}
use Rattle.routes.specs.Machine.Acts.{PhaseReady, Moved}
use Rattle.routes.specs.Machine.Jobs.{needing}
use Rattle.routes.specs.Machine.Nexts.{UpdateNext}
use Rattle.std.specs.declared.ops.ControlFlow.TheVariants.{Continue, Break}

-- piece k
abbrev pub piece_in : List ℕ → ℕ → PieceWords
piece_in o k = piece_of (words_of o) k

-- what the last piece before k with its prefix does
abbrev pub earlier_in : List ℕ → ℕ → Earlier
earlier_in o k = earlier_of (words_of o) (piece_in o k) k

-- piece k has passed: on to the next, or to the blocks that all of them need
abbrev pub passed : Job → ℕ → ℕ → UpdateNext
passed j k len = cond (nat_lt (k + 1) j.size) (Continue (needing (j.need + len / 4 + 1) j, InCheck (Piece (k + 1)))) (Continue (needing (j.need + len / 4 + 1) j, InObtain Get))

-- a piece that takes out: the last earlier piece with its prefix decides, or else the tree
abbrev pub taking : Job → ℕ → ℕ → Earlier → Result UpdateNext Refusal
taking j k len Put = Ok (passed j k len)
taking j k len Taken = Err AbsentRoute
taking j k len Never = Ok (Continue (j, InCheck (Root k)))

-- what piece k comes to before anything is loaded
abbrev pub looked_at : Job → ℕ → List ℕ → Result UpdateNext Refusal
looked_at j k o = cond (clean (piece_in o k).len (piece_in o k).bits) (cond (piece_in o k).puts (Ok (passed j k (piece_in o k).len)) (taking j k (piece_in o k).len (earlier_in o k))) (Err UncleanPrefix)

-- on from a node of level d on the way to the route of piece k
abbrev pub descent : ℕ → ℕ → ℕ → ℕ → Check
descent k len d b = cond (d == len / 4) (Route k b) (Slot k d b)

abbrev pub entered : Job → ℕ → ℕ → ℕ → ℕ → Result UpdateNext Refusal
entered j k len d b = cond (b == 0) (Err AbsentRoute) (Ok (Continue (j, InCheck (descent k len d b))))

abbrev pub found_route : Job → ℕ → ℕ → ℕ → Result UpdateNext Refusal
found_route j k len w = cond (w == 0) (Err AbsentRoute) (Ok (passed j k len))

-- a refusal leads to Reject
abbrev pub decided : Job → Result UpdateNext Refusal → UpdateNext
decided j (Ok r) = r
decided j (Err why) = Continue (j, InCheck (Reject why))

-- piece k is in hand, and each before it has asked for at most nine blocks
abbrev pub AtPiece : Job → ℕ → Type 0
AtPiece j k = (k < j.size) × (j.size ≤ 8) × (j.need ≤ 9 * k)

abbrev pub CleanIn : List ℕ → ℕ → Type 0
CleanIn o k = clean (piece_in o k).len (piece_in o k).bits ≡ true

abbrev pub CheckOk : Job → Check → List ℕ → Type 0
CheckOk j (Piece k) o = AtPiece j k
CheckOk j (Root k) o = AtPiece j k × CleanIn o k
CheckOk j (Slot k d b) o = AtPiece j k × CleanIn o k × (d < (piece_in o k).len / 4)
CheckOk j (Route k b) o = AtPiece j k × CleanIn o k
CheckOk j (Reject why) o = Unit {0}

abbrev pub check_act : ℕ → Check → List ℕ → Act
check_act p (Piece k) o = Pause
check_act p (Root k) o = Load 0 1
check_act p (Slot k d b) o = Load b (nib d (piece_in o k).bits)
check_act p (Route k b) o = Load b (16 + place (piece_in o k).len (piece_in o k).bits)
check_act p (Reject why) o = Swap 0 0 (p + 1) 0

abbrev pub check_after : Job → Check → List ℕ → ℕ → UpdateNext
check_after j (Piece k) o x = decided j (looked_at j k o)
check_after j (Root k) o x = decided j (entered j k (piece_in o k).len 0 (child_of x))
check_after j (Slot k d b) o x = decided j (entered j k (piece_in o k).len (d + 1) (child_of x))
check_after j (Route k b) o x = decided j (found_route j k (piece_in o k).len x)
check_after j (Reject why) o x = Break (No (number_of why))

abbrev pub CheckReady : Mem → ℕ → Job → Check → List ℕ → Type 0
CheckReady m p j s o = PhaseReady m p (check_act p s o) (CheckOk j s o) o

abbrev pub CheckMoved : ℕ → Job → Check → Mem → List ℕ → UpdateNext → Mem → Type 0
CheckMoved p j s m o r n = Moved p (check_act p s o) (check_after j s o) m r n
