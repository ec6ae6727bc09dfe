use Rattle.std.proofs.Common.{◌≡◌, ℕ, ◌+◌, ◌<◌, List, length, get_or, drop, sym, ◌∙◌}
use Rattle.std.proofs.lemmas.List.{drop_more}
use Rattle.std.proofs.lemmas.Result.{err_from_is_err_and}
use Rattle.routes.specs.declared.Piece.{Piece}
use Rattle.routes.specs.Routes.{Route, After, Table, piece, pieces}
use Rattle.routes.proofs.Table.Pieces.{pieces_wrong}
use Rattle.plain.proofs.draft.Draft.apply_all.Goals as goal

-- One piece more is done.
pieces_step : (ps : List Piece) (i : ℕ) (d : Piece) (rs : List Route) (t : After) → i < length ps → piece (get_or ps i d) rs ≡ t →
    pieces (drop (i + 1) ps) t ≡ pieces (drop i ps) (Table rs)
unfolding pieces
pieces_step ps i d rs t h e = rw (← e, drop_more ps i d h)

pub returns-in_err-apply : goal.returns-in_err-apply
returns-in_err-apply c =
    let p = err_from_is_err_and c.from_residual.result c.from_residual.ensures.1 in
    let q = c.in_err-apply.ensures.applied in
    rw (p.1, p.2) (sym c.loop-piece.invariant.0 ∙ sym (pieces_step _ _ _ _ _ c.loop-piece-test.true q) ∙ pieces_wrong _ _)
