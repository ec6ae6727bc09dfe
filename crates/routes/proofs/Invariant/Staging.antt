-- What an update in hand comes to in numbers, and the piece that is next.
use Rattle.std.proofs.Common.{◌≡◌, ℕ, suc, ◌/◌, ◌<◌, List, ◌∷◌, length, get_or, drop, ap, ◌∙◌, subst, arith, drop-cons}
use Rattle.own.specs.Layout.{words_of}
use Rattle.routes.specs.declared.Piece.{Piece}
use Rattle.routes.specs.declared.update.job.Job.{Job}
use Rattle.routes.specs.Routes.{Route, Now, clean}
use Rattle.routes.specs.Machine.Begins.{blank, stored}
use Rattle.routes.specs.Machine.Checks.{CleanIn, piece_in}
use Rattle.routes.specs.Build.Stages.{Stage}
use Rattle.routes.specs.Table.Tables.{Clean}
use Rattle.routes.specs.Tree.Trees.{Tree}
use Rattle.routes.specs.Invariant.Ghosts.{Ghost, Row}
use Rattle.routes.specs.Invariant.Building.{Equipped, Staged}
use Rattle.routes.proofs.Table.Sound.{clean_from}
use Rattle.routes.proofs.Build.Stages.{stage_clean}

module _ (g : Ghost) (o : List ℕ) (rs : List Route) (n : Now) (j : Job) (row : Row) (ps : List Piece) (qs : List Route) (e : Equipped g o rs n j row ps qs) where
  -- A number below the size is a piece's.
  pub in_pieces : (k : ℕ) → k < j.size → k < length ps
  in_pieces k l = omega (arith, e.sure.pending.length')

-- W is the working tree before piece k
module _ (v : ℕ → ℕ → ℕ) (g : Ghost) (o : List ℕ) (rs : List Route) (n : Now) (j : Job) (k : ℕ) (W : Tree) (s : Staged v g o rs n j k W) where
  -- The piece in hand is the first of those left.
  pub staged_piece : Stage v (words_of o) g.tree W j.need j.used j.retired j.root s.ts s.qs (get_or s.ps k blank ∷ drop (suc k) s.ps)
  staged_piece = subst (λ z. Stage v (words_of o) g.tree W j.need j.used j.retired j.root s.ts s.qs z) (drop-cons s.ps k blank (in_pieces g o rs n j _ s.ps s.qs s.equipped k s.here)) s.stage

  -- It is clean.
  pub staged_clean : Clean (get_or s.ps k blank).len (get_or s.ps k blank).bits
  staged_clean = stage_clean v (words_of o) g.tree W j.need j.used j.retired j.root s.ts s.qs (get_or s.ps k blank) (drop (suc k) s.ps) staged_piece

  -- Its words are among the own words.
  pub staged_words : piece_in o k ≡ stored (get_or s.ps k blank)
  staged_words = s.equipped.sure.pending.words k s.here

  -- They are clean.
  pub staged_clean_in : CleanIn o k
  staged_clean_in = ap (λ z. clean z.len z.bits) staged_words ∙ clean_from (get_or s.ps k blank).len (get_or s.ps k blank).bits staged_clean

  -- The level at which its route ends.
  pub staged_deep : (piece_in o k).len / 4 ≡ (get_or s.ps k blank).len / 4
  staged_deep = ap (λ z. z.len / 4) staged_words
