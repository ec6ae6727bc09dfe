-- What the holder's facts are made of, in every phase.
-- Assumes nothing.
use Rattle.std.specs.Prelude.{◌≡◌, ℕ, ◌+◌, ◌<◌, ◌≤◌, false, List, [], ◌∷◌, ◌==◌}
use Rattle.own.specs.Layout.{words_of}
use Rattle.routes.specs.declared.Piece.{Piece}
use Rattle.routes.specs.declared.update.job.Job.{Job}
use Rattle.routes.specs.Routes.{Route, Table, changed}
use Rattle.routes.specs.Build.Stages.{wants}
use Rattle.routes.specs.Build.Writes.{fresh_blocks, unused_blocks, retired_blocks}
use Rattle.routes.specs.Counts.Counts.{bit, cnt}
use Rattle.routes.specs.Tree.Trees.{count}
use Rattle.routes.specs.Invariant.Ghosts.{Ghost, Row, still}
use Rattle.routes.specs.Invariant.Readers.{Pending}

-- the kind of late row, what is loose and what is fresh
pub record Has (g : Ghost) (kind : Row) (gone got : List ℕ) : Type 0 where
  pub row : g.row ≡ kind
  pub loose : g.loose ≡ gone
  pub fresh : g.fresh ≡ got

-- nothing is late, loose or fresh
pub record Resting (g : Ghost) : Type 0 where
  pub has : Has g still [] []
  pub whole : g.torn ≡ false

-- the blocks got so far, those of them that are not used, and the blocks replaced
abbrev pub got_blocks : List ℕ → Job → List ℕ
got_blocks o j = fresh_blocks (words_of o) j.got

abbrev pub rest_blocks : List ℕ → Job → List ℕ
rest_blocks o j = unused_blocks (words_of o) j.got j.used

abbrev pub replaced_blocks : List ℕ → Job → List ℕ
replaced_blocks o j = retired_blocks (words_of o) j.retired

-- all pieces pass, and make this table
pub record Sure (rs : List Route) (o : List ℕ) (j : Job) (ps : List Piece) (qs : List Route) : Type 0 where
  pub pending : Pending o j.size ps
  pub makes : changed ps rs ≡ Table qs
  pub need : j.need ≡ wants ps

-- the oldest retired node
abbrev pub Oldest : Ghost → ℕ → Type 0
Oldest g b = (bs : List ℕ) × (g.chain ≡ b ∷ bs)

-- every block is in use
abbrev pub AllUsed : ℕ → Ghost → Type 0
AllUsed blocks g = (b : ℕ) → b < blocks → 1 ≤ bit (b == 0) + count b g.tree + cnt b g.chain + cnt b g.loose + cnt b g.fresh
