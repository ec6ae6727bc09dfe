-- A table stays sound, whatever is done.
use Rattle.std.proofs.Common.{◌≡◌, ℕ, ◌^◌, ◌<◌, true, List, [], ◌∷◌, refl, inl, inr, arith}
use mathlib.Core.List.Memᴰ
use mathlib.Core.List.{Memᴰ}
use Rattle.std.proofs.lemmas.Bool.Decides.{nat_tests as tests}
use Rattle.routes.specs.declared.Piece.{Piece}
use Rattle.routes.specs.Routes.{Route, clean, without, Table, piece, pieces}
use Rattle.routes.specs.Table.Tables.{Clean, Unique, Small, Sound}
use Rattle.routes.proofs.Table.Pieces.{piece_table, pieces_cons}
use Rattle.routes.proofs.Table.Unique.{fine_none, fine_piece, in_without}
use Rattle.routes.proofs.Table.Lengths.{unique_piece}

-- The test of clean bits, taken apart.
pub clean-parts : (len bits : ℕ) → clean len bits ≡ true → Clean len bits
clean-parts len bits e = record { short = grind (arith, tests); small = grind (arith, tests); rest = grind (arith, tests) }

-- And put together.
pub clean_from : (len bits : ℕ) → Clean len bits → clean len bits ≡ true
clean_from len bits c = grind (arith, tests)

-- The empty table is sound.
pub sound_none : Sound []
unfolding Unique
sound_none = record { fine = fine_none; unique = tt; small = λ q m. absurd (Memᴰ.not-nil m) }

-- Taking out brings in nothing that tells more.
small_without : (l b : ℕ) (rs : List Route) → Small rs → Small (without l b rs)
small_without l b rs s q m = s q (in_without l b rs q m).0

-- A piece of 32 bits keeps a table's answers at 32 bits.
small_piece : (p : Piece) (rs qs : List Route) → p.tells < 2 ^ 32 → piece p rs ≡ Table qs → Small rs → Small qs
small_piece p rs qs h e s = elim (piece_table p rs qs e) [
  | inl i ↦ rw i.1 (λ q m. elim (Memᴰ.cases_cons m) [ inl j ↦ rw j h | inr j ↦ small_without p.len p.bits rs s q j ])
  | inr i ↦ rw i.2 (small_without p.len p.bits rs s)
]

-- A piece keeps a table sound.
pub sound_piece : (p : Piece) (rs qs : List Route) → p.tells < 2 ^ 32 → piece p rs ≡ Table qs → Sound rs → Sound qs
sound_piece p rs qs h e s = record { fine = fine_piece p rs qs s.fine e; unique = unique_piece p rs qs s.unique e; small = small_piece p rs qs h e s.small }

-- Pieces do, one after the other.
pub sound_pieces : (ps : List Piece) (rs qs : List Route) → ((p : Piece) → Memᴰ p ps → p.tells < 2 ^ 32) → pieces ps (Table rs) ≡ Table qs → Sound rs → Sound qs
unfolding pieces
sound_pieces [] rs qs h e s = let i : rs ≡ qs = cc in rw (← i) s
sound_pieces (p ∷ ps) rs qs h e s =
    let c = pieces_cons p ps rs qs e in
    sound_pieces ps c.0 qs (λ q m. h q (Memᴰ.tail m)) c.2 (sound_piece p rs c.0 (h p (Memᴰ.head refl)) c.1 s)
