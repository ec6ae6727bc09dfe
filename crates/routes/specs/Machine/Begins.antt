-- How a lookup or an update begins: the registers and the own words then.
-- Assumes nothing.
use Rattle.std.specs.Prelude.{◌≡◌, ℕ, zero, suc, ◌^◌, ◌<◌, false, cond, ◌||◌, List, ◌==◌, nat_lt, slice_index_or}
use Rattle.own.specs.Pieces.{piece_written}
use Rattle.own.specs.declared.piece.PieceWords.{PieceWords}
use Rattle.routes.specs.declared.Ask.{Ask}
use Rattle.routes.specs.declared.Ask.TheVariants.{Find, Change}
use Rattle.routes.specs.declared.Piece.{Piece}
use Rattle.routes.specs.declared.lookup.Lookup.TheVariants.{Epoch}
use Rattle.routes.specs.declared.update.job.Job.{Job}
use Rattle.routes.specs.declared.update.Phase.TheVariants.{Refuse, Lock}
use Rattle.routes.specs.declared.work.Work.{Work}
use Rattle.routes.specs.declared.work.Work.TheVariants.{Lookup, Update}

abbrev pub blank : Piece
blank = record { puts = false; len = 0; bits = 0; tells = 0 }

-- a piece as it stands among the own words
abbrev pub stored : Piece → PieceWords
stored a = record { puts = a.puts; len = a.len; bits = a.bits; tells = a.tells }

-- the first k pieces among the own words
unfoldable pub noted : List Piece → List ℕ → ℕ → List ℕ
noted ps o zero = o
noted ps o (suc k) = piece_written (noted ps o k) k (stored (slice_index_or ps k blank))

-- the numbers of a piece are those that its types hold
pub record PieceFits (a : Piece) : Type 0 where
  pub len : a.len < 2 ^ 8
  pub bits : a.bits < 2 ^ 32
  pub tells : a.tells < 2 ^ 32

pub record StoredAs (a : Piece) (w : PieceWords) : Type 0 where
  pub value : w ≡ stored a
  pub fits : PieceFits a

abbrev pub PiecesFit : List Piece → ℕ → Type 0
PiecesFit ps n = (k : ℕ) → k < n → PieceFits (slice_index_or ps k blank)

abbrev pub start_job : ℕ → Job
start_job n = record { size = n; need = 0; got = 0; used = 0; retired = 0; root = 0 }

abbrev pub begin_update : ℕ → Work
begin_update n = cond (n == 0 || nat_lt 8 n) (Update (start_job n) Refuse) (Update (start_job n) Lock)

abbrev pub begin_work : Ask → Work
begin_work (Find a) = Lookup (Epoch a)
begin_work (Change n) = begin_update n

abbrev pub begin_words : Ask → List Piece → List ℕ → List ℕ
begin_words (Find a) ps o = o
begin_words (Change n) ps o = noted ps o 8

-- the numbers of what is asked are those that its types hold
abbrev pub AskFits : Ask → List Piece → Type 0
AskFits (Find a) ps = a < 2 ^ 32
AskFits (Change n) ps = PiecesFit ps 8
