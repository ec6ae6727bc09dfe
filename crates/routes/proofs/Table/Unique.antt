-- A table has one route for a length and its bits, and every route is clean, whatever is done.
use Rattle.std.proofs.Common.{◌≡◌, ℕ, ◌&&◌, ◌||◌, T, eqb, ltb, List, [], ◌∷◌, length, refl, inl, inr, arith}
use mathlib.Core.List.Memᴰ
use mathlib.Core.List.{Memᴰ}
use Rattle.std.proofs.lemmas.Bool.Decides.{nat_tests as tests}
use Rattle.std.proofs.lemmas.Bool.{cases_Bool}
use Rattle.routes.specs.declared.Piece.{Piece}
use Rattle.routes.specs.Routes.{Route, clean, without, After, Table, Wrong, piece, pieces, changed, table_of, Event, State, Run, begin, asks, finds, changes, full, leads, leads_still, turns, tells}
use Rattle.routes.specs.Promise.{OneRoute}
use Rattle.routes.specs.Table.Tables.{Fine}
use Rattle.routes.proofs.Table.Pieces.{put_in, piece_table, piece-clean, pieces_cons}

-- The empty table is.
pub fine_none : Fine []
fine_none = record { alone = λ q r m. absurd (Memᴰ.not-nil m); tidy = λ q m. absurd (Memᴰ.not-nil m) }

-- What is left after taking out was there, and has another length or other bits.
pub in_without : (l b : ℕ) (rs : List Route) (q : Route) → Memᴰ q (without l b rs) → Memᴰ q rs × ((l ≡ q.len) × (b ≡ q.bits) → ⊥)
unfolding without
in_without l b [] q m = absurd (Memᴰ.not-nil m)
in_without l b (r ∷ rs) q m = elim (cases_Bool (eqb l r.len && eqb b r.bits)) [
  | inl e ↦ (let h = in_without l b rs q (rw e at m) in (Memᴰ.tail h.0, h.1))
  | inr e ↦ elim (Memᴰ.cases_cons (rw e at m)) [
    | inl i ↦ (Memᴰ.head i, λ s. let x : l ≡ r.len = cc in let y : b ≡ r.bits = cc in grind (arith, tests))
    | inr k ↦ (let h = in_without l b rs q k in (Memᴰ.tail h.0, h.1))
  ]
]

-- Taking out keeps a table fine.
fine_without : (l b : ℕ) (rs : List Route) → Fine rs → Fine (without l b rs)
fine_without l b rs f = record {
  alone = λ q r m k. f.alone q r (in_without l b rs q m).0 (in_without l b rs r k).0;
  tidy = λ q m. f.tidy q (in_without l b rs q m).0;
}

-- Putting in a clean route does.
fine_put : (p : Piece) (rs : List Route) → T (clean p.len p.bits) → Fine rs → Fine (put_in p rs)
fine_put p rs c f = record { alone = alone'; tidy = tidy' }
  where
    alone' : (q r : Route) → Memᴰ q (put_in p rs) → Memᴰ r (put_in p rs) → q.len ≡ r.len → q.bits ≡ r.bits → q ≡ r
    alone' q r m k x y = elim (Memᴰ.cases_cons m) [
      | inl i ↦ elim (Memᴰ.cases_cons k) [
        | inl j ↦ cc
        | inr j ↦ (let h = (in_without p.len p.bits rs r j).1 in absurd (h (cc, cc)))
      ]
      | inr i ↦ elim (Memᴰ.cases_cons k) [
        | inl j ↦ (let h = (in_without p.len p.bits rs q i).1 in absurd (h (cc, cc)))
        | inr j ↦ f.alone q r (in_without p.len p.bits rs q i).0 (in_without p.len p.bits rs r j).0 x y
      ]
    ]

    tidy' : (q : Route) → Memᴰ q (put_in p rs) → T (clean q.len q.bits)
    tidy' q m = elim (Memᴰ.cases_cons m) [
      | inl i ↦ rw i c
      | inr i ↦ f.tidy q (in_without p.len p.bits rs q i).0
    ]

-- A piece does.
pub fine_piece : (p : Piece) (rs qs : List Route) → Fine rs → piece p rs ≡ Table qs → Fine qs
fine_piece p rs qs f e = elim (piece_table p rs qs e) [
  | inl i ↦ rw i.1 (fine_put p rs (rw (piece-clean p rs qs e) tt) f)
  | inr i ↦ rw i.2 (fine_without p.len p.bits rs f)
]

-- Pieces do, one after the other.
pub fine_pieces : (ps : List Piece) (rs qs : List Route) → Fine rs → pieces ps (Table rs) ≡ Table qs → Fine qs
unfolding pieces
fine_pieces [] rs qs f e = let i : rs ≡ qs = cc in rw (← i) f
fine_pieces (p ∷ ps) rs qs f e = let c = pieces_cons p ps rs qs e in fine_pieces ps c.0 qs (fine_piece p rs c.0 f c.1) c.2

-- A change does, turned away or not.
pub fine_changed : (ps : List Piece) (rs : List Route) → Fine rs → Fine (table_of (changed ps rs) rs)
unfolding table_of
fine_changed ps rs f = elim (cases_Bool (eqb (length ps) 0 || ltb 8 (length ps))) [
  | inl w ↦ rw w f
  | inr w ↦ rw w (go (pieces ps (Table rs)) refl)
]
  where
    go : (t : After) → pieces ps (Table rs) ≡ t → Fine (table_of t rs)
    go (Table qs) e = fine_pieces ps rs qs f e
    go (Wrong k) e = f

-- So every table of a run is fine.
pub run_fine : {cpus blocks : ℕ} {es : List Event} {s : State} → Run cpus blocks es s → Fine s.table
run_fine begin = fine_none
run_fine (asks p k ps r l q) = run_fine r
run_fine (finds p r e) = run_fine r
run_fine (changes {s = s} {ps = ps} p r e) = fine_changed ps s.table (run_fine r)
run_fine (full p r e c t) = run_fine r
run_fine (leads p r e l) = run_fine r
run_fine (leads_still p r e l) = run_fine r
run_fine (turns p r y) = run_fine r
run_fine (tells p r e) = run_fine r

-- The promise.
pub one_route_lem : OneRoute
one_route_lem cpus blocks es s r = let f = run_fine r in (f.alone, f.tidy)
