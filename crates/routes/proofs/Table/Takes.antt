-- Pieces one after the other, and what decides whether a route is there to be taken out.
use Rattle.std.proofs.Common.{◌≡◌, ℕ, ◌≤◌, cond, ◌&&◌, eqb, List, [], ◌∷◌, ◌++◌, length, sym, refl, ap, ◌∙◌, arith}
use Rattle.std.proofs.lemmas.Bool.Decides.{nat_tests as tests}
use Rattle.words.specs.Slots.{route_word}
use Rattle.routes.specs.declared.Piece.{Piece}
use Rattle.routes.specs.Routes.{Route, has, After, Table, Wrong, piece, pieces, changed}
use Rattle.routes.specs.Table.Lookups.{decides}
use Rattle.routes.specs.Table.Laws.{TakesDecided}
use Rattle.routes.proofs.Table.Pieces.{pieces_wrong, pieces_cons}
use Rattle.routes.proofs.Table.Lookups.{has-lookup, piece-lookup}

-- Some pieces and then others.
pub pieces-++ : (ps qs : List Piece) (t : After) → pieces (ps ++ qs) t ≡ pieces qs (pieces ps t)
unfolding pieces
pieces-++ [] qs t = refl
pieces-++ (p ∷ ps) qs (Table rs) = pieces-++ ps qs (piece p rs)
pieces-++ (p ∷ ps) qs (Wrong k) = sym (pieces_wrong qs k)

-- A change is turned away at its first wrong piece.
pub pieces_stop : (front back : List Piece) (p : Piece) (rs qs : List Route) (k : ℕ) → pieces front (Table rs) ≡ Table qs → piece p qs ≡ Wrong k → pieces (front ++ (p ∷ back)) (Table rs) ≡ Wrong k
unfolding pieces
pieces_stop front back p rs qs k e w = pieces-++ front (p ∷ back) (Table rs) ∙ rw (e, w) (pieces_wrong back k)

-- One piece more.
pub pieces_more : (ps : List Piece) (p : Piece) (rs qs ts : List Route) → pieces ps (Table rs) ≡ Table qs → piece p qs ≡ Table ts → pieces (ps ++ (p ∷ [])) (Table rs) ≡ Table ts
unfolding pieces
pieces_more ps p rs qs ts e w = pieces-++ ps (p ∷ []) (Table rs) ∙ rw (e, w)

-- One to eight pieces are a change.
pub changed_is : (ps : List Piece) (rs : List Route) → 1 ≤ length ps → length ps ≤ 8 → changed ps rs ≡ pieces ps (Table rs)
changed_is ps rs l h = grind (arith, tests)

-- A piece decides whether its own route is there, and no other.
pub has-piece : (l b : ℕ) (p : Piece) (rs qs : List Route) → piece p rs ≡ Table qs → has l b qs ≡ cond (eqb l p.len && eqb b p.bits) p.puts (has l b rs)
unfolding route_word
has-piece l b p rs qs e =
    let i = piece-lookup p rs qs e l b in let j = has-lookup l b rs in let k = has-lookup l b qs in grind (arith, tests)

-- The last piece of a length and bits decides whether the route is there, or else the table before.
pub has-pieces : (l b : ℕ) (ps : List Piece) (rs qs : List Route) → pieces ps (Table rs) ≡ Table qs → has l b qs ≡ decides l b ps (has l b rs)
unfolding decides pieces
has-pieces l b [] rs qs e = let f : rs ≡ qs = cc in rw f
has-pieces l b (p ∷ ps) rs qs e =
    let n = pieces_cons p ps rs qs e in
    has-pieces l b ps n.0 qs n.2 ∙ ap (λ z. decides l b ps z) (has-piece l b p rs n.0 n.1)

-- So it decides whether a piece that takes it out is turned away.
pub takes_decided : TakesDecided
unfolding piece
takes_decided ps p rs qs e c t = rw (c, t, has-pieces p.len p.bits ps rs qs e)
