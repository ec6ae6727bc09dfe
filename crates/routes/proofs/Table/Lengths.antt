-- How many routes a table has, if none is there twice.
use Rattle.std.proofs.Common.{◌≡◌, ℕ, ◌+◌, ◌≤◌, false, ◌&&◌, eqb, List, [], ◌∷◌, length, refl, inl, inr, arith}
use Rattle.std.proofs.lemmas.Bool.Decides.{nat_tests as tests}
use Rattle.std.proofs.lemmas.Bool.{cases_Bool}
use Rattle.routes.specs.declared.Piece.{Piece}
use Rattle.routes.specs.Routes.{Route, without, has, Table, piece, pieces}
use Rattle.routes.specs.Counts.Counts.{bit}
use Rattle.routes.specs.Table.Tables.{Unique}
use Rattle.routes.specs.Table.Laws.{PieceLengths}
use Rattle.routes.proofs.Table.Pieces.{piece_table, pieces_cons}

-- Taking out what is not there changes nothing.
pub without_none : (l b : ℕ) (rs : List Route) → has l b rs ≡ false → without l b rs ≡ rs
unfolding has without
without_none l b [] h = refl
without_none l b (r ∷ rs) h =
    let ih : has l b rs ≡ false → without l b rs ≡ rs = without_none l b rs in
    grind (arith, tests)

-- What is taken out is not there.
pub without-has : (l b : ℕ) (rs : List Route) → has l b (without l b rs) ≡ false
unfolding has without
without-has l b [] = refl
without-has l b (r ∷ rs) = let ih = without-has l b rs in grind (arith, tests)

-- Taking out brings nothing in.
pub has-without : (l b m c : ℕ) (rs : List Route) → has l b rs ≡ false → has l b (without m c rs) ≡ false
unfolding has without
has-without l b m c [] h = refl
has-without l b m c (r ∷ rs) h =
    let ih : has l b rs ≡ false → has l b (without m c rs) ≡ false = has-without l b m c rs in
    grind (arith, tests)

-- Taking out takes out one.
pub length_without : (l b : ℕ) (rs : List Route) → Unique rs → length (without l b rs) + bit (has l b rs) ≡ length rs
unfolding has without Unique
length_without l b [] u = refl
length_without l b (r ∷ rs) u =
    let ih = length_without l b rs u.1 in
    let same : has l b rs ≡ false → without l b rs ≡ rs = without_none l b rs in
    grind (arith, tests)

-- Taking out leaves nothing twice.
pub unique_without : (l b : ℕ) (rs : List Route) → Unique rs → Unique (without l b rs)
unfolding without Unique
unique_without l b [] u = tt
unique_without l b (r ∷ rs) u = elim (cases_Bool (eqb l r.len && eqb b r.bits)) [
  | inl e ↦ rw e (unique_without l b rs u.1)
  | inr e ↦ rw e (has-without r.len r.bits l b rs u.0, unique_without l b rs u.1)
]

-- Nor does a piece make a route twice.
pub unique_piece : (p : Piece) (rs qs : List Route) → Unique rs → piece p rs ≡ Table qs → Unique qs
unfolding Unique
unique_piece p rs qs u e = elim (piece_table p rs qs e) [
  | inl i ↦ rw i.1 (without-has p.len p.bits rs, unique_without p.len p.bits rs u)
  | inr i ↦ rw i.2 (unique_without p.len p.bits rs u)
]

-- A piece that puts makes one route more, and one goes if it was there.
pub piece-length : PieceLengths
piece-length p rs qs u e =
    let w = length_without p.len p.bits rs u in
    let c = piece_table p rs qs e in
    grind arith

-- Each piece takes out at most one.
pub pieces-length : (ps : List Piece) (rs qs : List Route) → Unique rs → pieces ps (Table rs) ≡ Table qs → length rs ≤ length qs + length ps
unfolding pieces
pieces-length [] rs qs u e = let i : rs ≡ qs = cc in rw i (omega arith)
pieces-length (p ∷ ps) rs qs u e =
    let c = pieces_cons p ps rs qs e in
    let ih = pieces-length ps c.0 qs (unique_piece p rs c.0 u c.1) c.2 in
    let l = piece-length p rs c.0 u c.1 in
    grind (arith, tests)
