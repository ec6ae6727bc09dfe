-- Gathering the pieces of a change: one is read, and the others are left.
use Rattle.std.proofs.Common.{◌≡◌, ℕ, ◌+◌, ◌<◌, List, ◌∷◌, length, get_or, drop, Ok, Err, Result, sym, ap, ◌∙◌}
use Rattle.std.proofs.lemmas.List.{at_drop_more}
use Rattle.routes.specs.declared.Piece.{Piece}
use Rattle.script.specs.declared.expected.Expected.{Expected}
use Rattle.script.specs.declared.pieces.Change.{Change}
use Rattle.script.specs.Pieces.{piece_of, with_piece, gathered}
use Rattle.script.specs.Reading.{◌>>=◌}

-- whole comes of the parts ps from n on, of which the first is t
module _ (c : Change) (ps : List (List ℕ)) (n : ℕ) (t : List ℕ) (whole : Result Change Expected) (inv : gathered c (drop n ps) ≡ whole) (here : (n < length ps) × (t ≡ get_or ps n t)) where
  opened : gathered c (t ∷ drop (n + 1) ps) ≡ whole
  opened = ap (λ u. gathered c (u ∷ drop (n + 1) ps)) here.1 ∙ sym (at_drop_more (gathered c) ps n t here.0) ∙ inv

  -- The part is a piece.
  pub gather_more : (p : Piece) → Ok p ≡ piece_of t → gathered (with_piece c p) (drop (n + 1) ps) ≡ whole
  unfolding gathered
  gather_more p e = ap (λ r. r >>= (λ q. gathered (with_piece c q) (drop (n + 1) ps))) e ∙ opened

  -- The part is none.
  pub gather_wrong : (e : Expected) → Err e ≡ piece_of t → Err e ≡ whole
  unfolding gathered
  gather_wrong e w = ap (λ r. r >>= (λ q. gathered (with_piece c q) (drop (n + 1) ps))) w ∙ opened
