-- The pieces of a change go among the own words, one after the other.
use Rattle.std.proofs.Common.{◌≡◌, ℕ, suc, ◌+◌, List, ◌∷◌, length, get_or, drop, refl, ap, sym, subst, ◌∙◌, add-one, arith, below_none, below_more}
use Rattle.std.proofs.Math.Seq.{drop-cons}
use Rattle.own.specs.Pieces.{piece_written}
use Rattle.routes.specs.declared.Piece.{Piece}
use Rattle.routes.specs.Machine.Begins.{blank, stored, noted, PieceFits, PiecesFit}

-- The first k pieces are noted, and the rest is still to come.
pub record NotedSoFar (ps : List Piece) (o : List ℕ) (k : ℕ) (rest : List Piece) (u : List ℕ) : Type 0 where
  pub words : u ≡ noted ps o k
  pub fits : PiecesFit ps k
  pub many : k + length rest ≡ length ps
  pub comes : rest ≡ drop k ps

pub noted_none : (ps : List Piece) (o : List ℕ) → NotedSoFar ps o 0 ps o
unfolding noted
noted_none ps o = record { words = refl; fits = below_none _; many = omega arith; comes = refl }

-- While a piece is to come there is a place for it.
pub one_to_come : {ps : List Piece} {o : List ℕ} {k : ℕ} {rest : List Piece} {u : List ℕ} {a : Piece} {more : List Piece} → NotedSoFar ps o k rest u → rest ≡ a ∷ more → k + suc (length more) ≡ length ps
one_to_come {k = k} n e = ap (λ z. k + length z) (sym e) ∙ n.many

-- One piece more is noted behind those before.
pub noted_more : {ps : List Piece} {o : List ℕ} {k : ℕ} {rest : List Piece} {u : List ℕ} (a : Piece) (more : List Piece) → NotedSoFar ps o k rest u → rest ≡ a ∷ more → PieceFits a → NotedSoFar ps o (k + 1) more (piece_written u k (stored a))
unfolding noted
noted_more {ps} {o} {k} a more n e f =
    let many = one_to_come n e in
    let rest : a ∷ more ≡ get_or ps k blank ∷ drop (suc k) ps = sym e ∙ n.comes ∙ drop-cons ps k blank (omega (arith, many)) in
    let head : a ≡ get_or ps k blank = cc in
    record {
      words = rw add-one (ap (λ z. piece_written z k (stored a)) n.words ∙ ap (λ z. piece_written (noted ps o k) k (stored z)) head);
      fits = below_more _ _ n.fits (subst PieceFits head f);
      many = omega (arith, many);
      comes = rw add-one (cc);
    }
