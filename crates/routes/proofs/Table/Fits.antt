-- Pieces that do not fit an address do not change what is found for it.
use Rattle.std.proofs.Common.{◌≡◌, ℕ, ◌+◌, false, List, [], ◌∷◌, refl, ◌∙◌, inl, inr, arith}
use mathlib.Core.List.{Memᴰ}
use Rattle.std.proofs.lemmas.Bool.Decides.{nat_tests}
use Rattle.routes.specs.declared.Answer.{Answer}
use Rattle.routes.specs.declared.Answer.TheVariants.{Found, Nothing}
use Rattle.routes.specs.declared.Piece.{Piece}
use Rattle.routes.specs.Routes.{Route, fits, longest, find, without, Table, piece, pieces}
use Rattle.routes.specs.Promise.{OnlyWhatFits}
use Rattle.routes.proofs.Table.Pieces.{piece_table, pieces_cons, changed_table}

-- A route that does not fit may be left out.
longest-without : (a l b : ℕ) → fits l b a ≡ false → (rs : List Route) (best : Answer) (n : ℕ) → longest a (without l b rs) best n ≡ longest a rs best n
unfolding longest without
longest-without a l b ne [] best n = refl
longest-without a l b ne (r ∷ rs) best n =
    let here = longest-without a l b ne rs (Found r.len r.tells) (r.len + 1) in
    let past = longest-without a l b ne rs best n in
    grind (arith, nat_tests)

-- One piece that does not fit.
piece-find : (a : ℕ) (p : Piece) (rs qs : List Route) → fits p.len p.bits a ≡ false → piece p rs ≡ Table qs → find a qs ≡ find a rs
unfolding longest
piece-find a p rs qs ne e =
    let w = longest-without a p.len p.bits ne rs Nothing 0 in
    elim (piece_table p rs qs e) [
      | inl i ↦ rw (i.1, ne) w
      | inr i ↦ rw i.2 w
    ]

-- A row of pieces none of which fits.
pieces-find : (a : ℕ) (ps : List Piece) (rs qs : List Route) → pieces ps (Table rs) ≡ Table qs → ((p : Piece) → Memᴰ p ps → fits p.len p.bits a ≡ false) → find a qs ≡ find a rs
unfolding pieces
pieces-find a [] rs qs e ne = cc
pieces-find a (p ∷ ps) rs qs e ne =
    let c = pieces_cons p ps rs qs e in
    pieces-find a ps c.0 qs c.2 (λ q m. ne q (Memᴰ.tail m)) ∙ piece-find a p rs c.0 (ne p (Memᴰ.head refl)) c.1

-- So a change shows only where one of its pieces fits.
pub only_what_fits : OnlyWhatFits
only_what_fits ps rs qs a e ne = pieces-find a ps rs qs (changed_table ps rs qs e) ne
