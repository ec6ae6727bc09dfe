-- What a piece of a change, and a row of them, makes of a table: the definitions of Routes taken apart, once.
use Rattle.std.proofs.Common.{◌≡◌, ℕ, Bool, true, false, cond, not, ◌||◌, eqb, ltb, ◌⊎◌, List, [], ◌∷◌, length, refl, inl, inr, arith}
use Rattle.std.proofs.lemmas.Bool.{cases_Bool}
use Rattle.routes.specs.declared.Piece.{Piece}
use Rattle.routes.specs.Routes.{Route, clean, without, has, After, Table, Wrong, piece, pieces, changed}

-- the table after a route is put in
abbrev pub put_in : Piece → List Route → List Route
put_in p rs = record { len = p.len; bits = p.bits; tells = p.tells } ∷ without p.len p.bits rs

-- A piece that is not turned away puts a route in, or takes out one that is there.
pub piece_table : (p : Piece) (rs qs : List Route) → piece p rs ≡ Table qs →
    ((p.puts ≡ true) × (qs ≡ put_in p rs)) ⊎ ((p.puts ≡ false) × (has p.len p.bits rs ≡ true) × (qs ≡ without p.len p.bits rs))
unfolding piece
piece_table p rs qs e = go (clean p.len p.bits) p.puts (has p.len p.bits rs) e
  where
    go : (c u h : Bool) → cond (not c) (Wrong 2) (cond u (Table (put_in p rs)) (cond h (Table (without p.len p.bits rs)) (Wrong 3))) ≡ Table qs →
        ((u ≡ true) × (qs ≡ put_in p rs)) ⊎ ((u ≡ false) × (h ≡ true) × (qs ≡ without p.len p.bits rs))
    go false u h e = inl (cc, cc)
    go true true h e = inl (refl, cc)
    go true false true e = inr (refl, refl, cc)
    go true false false e = inl (cc, cc)

-- A piece that is not turned away is clean.
pub piece-clean : (p : Piece) (rs qs : List Route) → piece p rs ≡ Table qs → clean p.len p.bits ≡ true
unfolding piece
piece-clean p rs qs e = elim (cases_Bool (clean p.len p.bits)) [ inl c ↦ c | inr c ↦ cc (rw c at e) ]

-- Once a piece is turned away, the change is.
pub pieces_wrong : (ps : List Piece) (k : ℕ) → pieces ps (Wrong k) ≡ Wrong k
unfolding pieces
pieces_wrong [] k = refl
pieces_wrong (p ∷ ps) k = refl

-- Pieces that come to a table came through a table after the first.
pub pieces_cons : (p : Piece) (ps : List Piece) (rs qs : List Route) → pieces (p ∷ ps) (Table rs) ≡ Table qs → (ts : List Route) × (piece p rs ≡ Table ts) × (pieces ps (Table ts) ≡ Table qs)
unfolding pieces
pieces_cons p ps rs qs e = go (piece p rs) refl
  where
    go : (t : After) → piece p rs ≡ t → (ts : List Route) × (piece p rs ≡ Table ts) × (pieces ps (Table ts) ≡ Table qs)
    go (Table ts) w = (ts, w, rw (← w) e)
    go (Wrong k) w = (let z : ◌≡◌ {A = ℕ} 0 1 = cc (pieces_wrong ps k) in absurd (omega arith))

-- A change that comes to a table is its pieces, one after the other.
pub changed_table : (ps : List Piece) (rs qs : List Route) → changed ps rs ≡ Table qs → pieces ps (Table rs) ≡ Table qs
changed_table ps rs qs e = elim (cases_Bool (eqb (length ps) 0 || ltb 8 (length ps))) [ inl w ↦ cc (rw w at e) | inr w ↦ rw w at e ]
