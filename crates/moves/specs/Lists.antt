-- How a list of moves is played, move by move.
-- Assumes nothing.
use Rattle.std.specs.Prelude.{◌≡◌, ℕ, ◌+◌, ◌-◌, ◌*◌, ◌<◌, Bool, false, cond, not, ◌||◌, List, Some, None, Option, ◌==◌, slice_index_or}
use Rattle.routes.specs.declared.Ask.{Ask}
use Rattle.routes.specs.declared.Ask.TheVariants.{Find, Change}
use Rattle.routes.specs.declared.Piece.{Piece}
use Rattle.world.specs.declared.schedule.Move.{Move}
use Rattle.world.specs.declared.schedule.Move.TheVariants.{Begin, Go, Arrive, Over}
use Rattle.moves.specs.declared.list.Doing.{Doing}
use Rattle.moves.specs.declared.list.Doing.TheVariants.{Reading, Going, Arriving}
use Rattle.moves.specs.declared.list.MoveList.{MoveList}
use Rattle.moves.specs.declared.listed.Listed.{Listed}
use Rattle.moves.specs.declared.listed.Listed.TheVariants.{Go as GoOn, Arrive as ArriveOn, Find as FindOn, Change as ChangeOn}
use Rattle.moves.specs.Moves.{IsMove, width_of, body_of, piece_at, blank}

-- is the processor of the present move busy, where that matters
abbrev pub busy_of : Doing → List Bool → Bool
busy_of Reading bs = false
busy_of (Going p n) bs = slice_index_or bs p false
busy_of (Arriving p n) bs = false

-- what is left of the present move, and what comes next by it
abbrev pub left_of : Doing → Bool → Doing
left_of Reading b = Reading
left_of (Going p n) b = cond (n == 0 || not b) Reading (Going p (n - 1))
left_of (Arriving p n) b = cond (n == 0) Reading (Arriving p (n - 1))

abbrev pub comes_of : Doing → Bool → Option Move
comes_of Reading b = None
comes_of (Going p n) b = cond (n == 0 || not b) None (Some (Go p))
comes_of (Arriving p n) b = cond (n == 0) None (Some (Arrive p))

-- a move that is taken up: what is to be done of it, and what begins unless its processor is busy
abbrev pub doing_of : Listed → Doing
doing_of (GoOn p n) = Going p n
doing_of (ArriveOn p n) = Arriving p n
doing_of (FindOn p a) = Reading
doing_of (ChangeOn p n) = Reading

abbrev pub begun : Bool → ℕ → Ask → Option Move
begun b p k = cond b None (Some (Begin p k))

abbrev pub begins_of : Listed → List Bool → Option Move
begins_of (GoOn p n) bs = None
begins_of (ArriveOn p n) bs = None
begins_of (FindOn p a) bs = begun (slice_index_or bs p false) p (Find a)
begins_of (ChangeOn p n) bs = begun (slice_index_or bs p false) p (Change n)

-- the move at a place of a list is taken up
pub record TookUp (bs : List Bool) (cpus : ℕ) (ws : List ℕ) (at : ℕ) (l : Listed) (r : Option Move) (t : MoveList) (row : List Piece) : Type 0 where
  pub stands : IsMove cpus ws at l
  pub behind : t.at ≡ at + width_of l
  pub doing : t.doing ≡ doing_of l
  pub begins : r ≡ begins_of l bs
  pub pieces : (k : ℕ) → k < body_of l → slice_index_or row k blank ≡ piece_at ws (at + 1 + 2 * k)

-- or there is none any more
pub data TakenUp (bs : List Bool) (cpus : ℕ) (ws : List ℕ) (at : ℕ) : Option Move → MoveList → List Piece → Type 0 where
  none : {r : Option Move} {t : MoveList} {row : List Piece} → ((l : Listed) → IsMove cpus ws at l → ⊥) → r ≡ Some Over → t.at ≡ at → TakenUp bs cpus ws at r t row
  some : {r : Option Move} {t : MoveList} {row : List Piece} (l : Listed) → TookUp bs cpus ws at l r t row → TakenUp bs cpus ws at r t row

-- what comes next: by the present move, if anything is left of it, or else by the next one
abbrev pub Advanced : Option Move → List Bool → MoveList → Option Move → MoveList → List Piece → Type 0
Advanced (Some m) bs s r t row = (r ≡ Some m) × (t.at ≡ s.at) × (t.doing ≡ left_of s.doing (busy_of s.doing bs))
Advanced None bs s r t row = TakenUp bs s.cpus s.words.now s.at r t row
