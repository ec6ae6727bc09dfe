-- Rows as rings: a store is put behind the last, or the first is taken away.
use Rattle.std.proofs.Common.{◌≡◌, ℕ, zero, suc, ◌+◌, ◌-◌, ◌*◌, ◌<◌, ◌≤◌, true, ltb, ◌≢◌, List, [], ◌∷◌, ◌++◌, length, get_or, set, Some, None, sym, refl, ◌∙◌, inl, inr, add-one, arith, get_or-set_other, get_or-set_same}
use mathlib.Core.Path.{fun_ext}
use Rattle.std.proofs.lemmas.Bool.Decides.{nat_tests, eqb_tells}
use Rattle.std.proofs.lemmas.Bool.{cases_lt, cases_eq, lt-ltb}
use Rattle.std.proofs.lemmas.List.{get_or_past, length_push}
use Rattle.routes.specs.Memory.{Store, set_at}
use Rattle.memory.specs.declared.row.LateStore.{LateStore}
use Rattle.memory.specs.declared.row.Row.{Row}
use Rattle.memory.specs.Rings.{no_store, no_row, store_of, wrapped, place_of, row_from, row_of, any_late, first_of, RowsIn, StoresIn}

-- A place of a row is one of the list.
pub place_in : (room p first k : ℕ) → p < 16 → first < room → k < room → place_of room p first k < 16 * room
place_in room p first k h f n = grind (arith, nat_tests)

-- The first store stands at the first slot.
pub place_first : (room p first : ℕ) → first < room → place_of room p first 0 ≡ 16 * first + p
place_first room p first f = grind (arith, nat_tests)

-- One slot on, all stand one nearer.
pub place_next : (room p first k : ℕ) → first < room → suc k < room → place_of room p (wrapped room (first + 1)) k ≡ place_of room p first (suc k)
place_next room p first k f n = grind (arith, nat_tests)

-- Two stores of one row stand apart.
pub place_apart : (room p first j k : ℕ) → first < room → j < k → k < room → place_of room p first j ≡ place_of room p first k → ⊥
place_apart room p first j k f h n e = grind (arith, nat_tests)

-- And two of different rows.
pub place_other : (room p q f g j k : ℕ) → p < 16 → q < 16 → (q ≡ p → ⊥) → place_of room q g j ≡ place_of room p f k → ⊥
place_other room p q f g j k hp hq n e = omega arith

-- What is written elsewhere leaves a row as it was.
pub row_frame : (ls : List LateStore) (at : ℕ) (e : LateStore) (room p first n : ℕ) → ((k : ℕ) → k < n → place_of room p first k ≢ at) → row_from (set ls at e) room p first n ≡ row_from ls room p first n
unfolding row_from
row_frame ls at e room p first zero apart = refl
row_frame ls at e room p first (suc n) apart =
    let ih = row_frame ls at e room p first n (λ k h. apart k (omega arith)) in
    rw (ih, get_or-set_other ls at (place_of room p first n) e no_store (apart n (omega arith))) refl

-- A store is put behind the last.
pub row_push : (ls : List LateStore) (e : LateStore) (room p first n : ℕ) → length ls ≡ 16 * room → p < 16 → first < room → n < room → row_from (set ls (place_of room p first n) e) room p first (n + 1) ≡ row_from ls room p first n ++ (store_of e ∷ [])
unfolding row_from
row_push ls e room p first n long h f r =
    let inside = place_in room p first n h f r in
    rw (add-one, row_frame ls (place_of room p first n) e room p first n (λ k l. place_apart room p first k n f l r), get_or-set_same ls (place_of room p first n) e no_store (omega arith)) refl

-- The first is taken away.
pub row_pop : (ls : List LateStore) (room p first n : ℕ) → first < room → n < room → row_from ls room p first (suc n) ≡ store_of (get_or ls (place_of room p first 0) no_store) ∷ row_from ls room p (wrapped room (first + 1)) n
unfolding row_from
row_pop ls room p first zero f r = refl
row_pop ls room p first (suc n) f r =
    let ih = row_pop ls room p first n f (omega arith) in
    rw (ih, place_next room p first n f r) refl

-- So the first of some is the store at the first slot, and the others are one less, from the next slot on.
pub row_first : (ls : List LateStore) (room p first many : ℕ) → first < room → 0 < many → many ≤ room → row_from ls room p first many ≡ store_of (get_or ls (16 * first + p) no_store) ∷ row_from ls room p (wrapped room (first + 1)) (many - 1)
row_first ls room p first zero f some fits = absurd (omega arith)
row_first ls room p first (suc n) f some fits =
    let one_less : suc n - 1 ≡ n = omega arith in
    rw (row_pop ls room p first n f (omega arith), place_first room p first f, one_less) refl

-- Is there a store in a row: its count tells.
pub row_any : (ls : List LateStore) (room p first many : ℕ) → any_late (row_from ls room p first many) ≡ ltb 0 many
unfolding row_from any_late
row_any ls room p first zero = refl
row_any ls room p first (suc n) = any_end (row_from ls room p first n) _ ∙ sym (lt-ltb 0 (suc n) (omega arith))
  where
    any_end : (ss : List Store) (s : Store) → any_late (ss ++ (s ∷ [])) ≡ true
    any_end [] s = refl
    any_end (t ∷ ss) s = refl

-- The first store of a row with none, and of one with some.
pub first_none : (ls : List LateStore) (room p first many : ℕ) → many ≡ 0 → first_of (row_from ls room p first many) ≡ None
unfolding row_from first_of
first_none ls room p first many e = rw e refl

pub first_some : (ls : List LateStore) (room p first many : ℕ) → first < room → 0 < many → many ≤ room → first_of (row_from ls room p first many) ≡ Some (store_of (get_or ls (16 * first + p) no_store))
unfolding first_of
first_some ls room p first many f some fits = rw (row_first ls room p first many f some fits) refl

-- A row is as long as its count.
pub row-length : (ls : List LateStore) (room p first n : ℕ) → length (row_from ls room p first n) ≡ n
unfolding row_from
row-length ls room p first zero = refl
row-length ls room p first (suc n) = length_push (row_from ls room p first n) _ ∙ rw (row-length ls room p first n) (add-one n)

-- So a row that is shorter than its room has room.
pub row_short : (ls : List LateStore) (room : ℕ) (rs : List Row) (p : ℕ) → length (row_of ls room rs p) < room → (get_or rs p no_row).many < room
row_short ls room rs p h = rw (row-length ls room p (get_or rs p no_row).first (get_or rs p no_row).many) at h

-- And the other way round.
pub row_roomy : (ls : List LateStore) (room : ℕ) (rs : List Row) (p : ℕ) → (get_or rs p no_row).many < room → length (row_of ls room rs p) < room
row_roomy ls room rs p h = rw (row-length ls room p (get_or rs p no_row).first (get_or rs p no_row).many) h

-- Who is none of the 16 has no row.
pub row_past : (ls : List LateStore) (room : ℕ) (rs : List Row) (p : ℕ) → length rs ≤ p → row_of ls room rs p ≡ []
unfolding row_from
row_past ls room rs p h = rw (get_or_past rs p no_row h) refl

-- One row is written.
pub rows_set : (ls : List LateStore) (room : ℕ) (rs : List Row) (p : ℕ) (r : Row) → p < length rs → row_of ls room (set rs p r) ≡ set_at p (row_from ls room p r.first r.many) (row_of ls room rs)
rows_set ls room rs p r h = fun_ext (λ q. elim (eqb_tells q p) [
  | inl e ↦ rw (e.0, e.1, get_or-set_same rs p r no_row h) refl
  | inr e ↦ rw (e.0, get_or-set_other rs p q r no_row e.1) refl
])

-- A store of p leaves the rows of others as they were.
row_others : (ls : List LateStore) (e : LateStore) (room : ℕ) (rs : List Row) (p first k q : ℕ) → length rs ≡ 16 → p < 16 → (q ≡ p → ⊥) → row_of (set ls (place_of room p first k) e) room rs q ≡ row_of ls room rs q
unfolding row_from
row_others ls e room rs p first k q few h n = elim (cases_lt q 16) [
  | inl l ↦ row_frame ls (place_of room p first k) e room q (get_or rs q no_row).first (get_or rs q no_row).many (λ j g. place_other room p q first (get_or rs q no_row).first j k h l n)
  | inr l ↦ rw (get_or_past rs q no_row (omega arith)) refl
]

-- A store is put behind the last of p's row.
pub rows_push : (ls : List LateStore) (e : LateStore) (room : ℕ) (rs : List Row) (p first many : ℕ) → length ls ≡ 16 * room → length rs ≡ 16 → p < 16 → first < room → many < room →
    row_of (set ls (place_of room p first many) e) room (set rs p (record { first = first; many = many + 1 })) ≡ set_at p (row_from ls room p first many ++ (store_of e ∷ [])) (row_of ls room rs)
rows_push ls e room rs p first many long few h f r = fun_ext (λ q. elim (eqb_tells q p) [
  | inl t ↦ rw (t.0, t.1, get_or-set_same rs p (record { first = first; many = many + 1 }) no_row (omega arith)) (row_push ls e room p first many long h f r)
  | inr t ↦ rw (t.0, get_or-set_other rs p q (record { first = first; many = many + 1 }) no_row t.1) (row_others ls e room rs p first many q few h t.1)
])

-- Every row is within its room, and one that is within is written.
pub rows_in_set : (room : ℕ) (rs : List Row) (p : ℕ) (r : Row) → RowsIn room rs → p < length rs → r.first < room → r.many ≤ room → RowsIn room (set rs p r)
rows_in_set room rs p r all h f fits q = elim (cases_eq q p) [
  | inl e ↦ rw (e, get_or-set_same rs p r no_row h) (f, fits)
  | inr e ↦ rw (get_or-set_other rs p q r no_row e) (all q)
]

-- Every store goes to a word of a block, and one that does is written.
pub stores_in_set : (blocks : ℕ) (ls : List LateStore) (at : ℕ) (s : LateStore) → StoresIn blocks ls → at < length ls → s.block < blocks → s.word < 48 → s.x < 18446744073709551616 → StoresIn blocks (set ls at s)
stores_in_set blocks ls at s all h b w x i = elim (cases_eq i at) [
  | inl e ↦ rw (e, get_or-set_same ls at s no_store h) (b, w, x)
  | inr e ↦ rw (get_or-set_other ls at i s no_store e) (all i)
]
