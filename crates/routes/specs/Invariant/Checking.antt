-- Check: the first pieces pass, and the one in hand is looked up in the published tree.
-- Assumes nothing.
use Rattle.std.specs.Prelude.{◌≡◌, ℕ, ◌/◌, ◌<◌, false, List, take}
use Rattle.own.specs.declared.piece.Earlier.TheVariants.{Never}
use Rattle.routes.specs.declared.Answer.TheVariants.{No}
use Rattle.routes.specs.declared.Piece.{Piece}
use Rattle.routes.specs.declared.update.job.Job.{Job}
use Rattle.routes.specs.declared.update.check.Check.{Check}
use Rattle.routes.specs.declared.update.check.Check.TheVariants.{Piece as AtPiece, Root, Slot, Route as AtRoute, Reject}
use Rattle.routes.specs.Refusals.{number_of}
use Rattle.routes.specs.Routes.{Route, Now, Table, pieces}
use Rattle.routes.specs.Machine.Checks.{CleanIn, piece_in, earlier_in}
use Rattle.routes.specs.Build.Stages.{wants}
use Rattle.routes.specs.Tree.Trees.{block_of}
use Rattle.routes.specs.Tree.Walks.{down}
use Rattle.routes.specs.Invariant.Ghosts.{Ghost}
use Rattle.routes.specs.Invariant.Readers.{Awaits, Settled, Pending}
use Rattle.routes.specs.Invariant.Holders.{Resting}

-- pieces below k pass, and k is in hand
pub record Checked (g : Ghost) (o : List ℕ) (rs : List Route) (n : Now) (j : Job) (k : ℕ) : Type 0 where
  pub resting : Resting g
  pub ps : List Piece
  pub awaits : Awaits ps n
  pub pending : Pending o j.size ps
  pub here : k < j.size
  pub passes : (qs : List Route) × (pieces (take k ps) (Table rs) ≡ Table qs)
  pub need : j.need ≡ wants (take k ps)
  pub got : j.got ≡ 0
  pub used : j.used ≡ 0
  pub retired : j.retired ≡ 0

-- piece k takes out a route that no earlier piece speaks of
pub record Sought (o : List ℕ) (k : ℕ) : Type 0 where
  pub clean' : CleanIn o k
  pub takes : (piece_in o k).puts ≡ false
  pub never : earlier_in o k ≡ Never

-- block b is the node of level d on its way
pub record OnWay (g : Ghost) (o : List ℕ) (k d b : ℕ) : Type 0 where
  pub here : b ≡ block_of (down (piece_in o k).bits d g.tree)
  pub real : b ≡ 0 → ⊥

unfoldable pub CheckFacts : Ghost → List ℕ → List Route → Now → Job → Check → Type 0
CheckFacts g o rs n j (AtPiece k) = Checked g o rs n j k
CheckFacts g o rs n j (Root k) = Checked g o rs n j k × Sought o k
CheckFacts g o rs n j (Slot k d b) = Checked g o rs n j k × Sought o k × OnWay g o k d b × (d < (piece_in o k).len / 4)
CheckFacts g o rs n j (AtRoute k b) = Checked g o rs n j k × Sought o k × OnWay g o k ((piece_in o k).len / 4) b
CheckFacts g o rs n j (Reject why) = Resting g × Settled (No (number_of why)) n
