-- A row is looked through, store by store.
use Rattle.std.proofs.Common.{◌≡◌, ◌≢◌, ℕ, zero, suc, ◌+◌, ◌<◌, Bool, true, false, cond, not, ◌&&◌, T, eqb, List, [], ◌∷◌, ◌++◌, length, get_or, sym, refl, ap, ◌∙◌, inl, inr, add-one, zero-add, arith}
use Rattle.std.specs.List.{range_with_len, AllWithin, HoldsAt}
use Rattle.std.proofs.lemmas.List.FromFn.{get_or-range_with_len, length-range_with_len}
use Rattle.std.specs.Option.{MatchOption}
use Rattle.std.specs.Bool.{MatchBool, then_some}
use Rattle.std.proofs.lemmas.Bool.{cases_eq, cases_lt, eq-eqb, ne_eqb, and_left, and_right, and_from}
use Rattle.routes.specs.Memory.{Store, last_late, none_to}
use Rattle.memory.specs.declared.row.LateStore.{LateStore}
use Rattle.memory.specs.declared.row.Row.{Row}
use Rattle.memory.specs.Rings.{no_store, store_of, place_of, row_from, row_of}
use Rattle.memory.proofs.Rings.{row_past}

-- The store at the end of a row is the newest.
last_end : (b w : ℕ) (ss : List Store) (s : Store) (old : ℕ) → last_late b w (ss ++ (s ∷ [])) old ≡ cond (eqb b s.block && eqb w s.word) s.x (last_late b w ss old)
unfolding last_late
last_end b w [] s old = refl
last_end b w (t ∷ ss) s old = last_end b w ss s (cond (eqb b t.block && eqb w t.word) t.x old)

-- No store of a longer row goes to a block if none of the row does, nor the one at the end.
none_end : (b : ℕ) (ss : List Store) (s : Store) → none_to b (ss ++ (s ∷ [])) ≡ (none_to b ss && not (eqb b s.block))
unfolding none_to
none_end b [] s = elim (eqb b s.block) as (λ t. (not t && true) ≡ (true && not t)) [ true ↦ refl | false ↦ refl ]
none_end b (t ∷ ss) s = rw (none_end b ss s) (elim (eqb b t.block) as (λ u. (not u && (none_to b ss && not (eqb b s.block))) ≡ ((not u && none_to b ss) && not (eqb b s.block))) [ true ↦ refl | false ↦ refl ])

module _ (ls : List LateStore) (room p first : ℕ) where
  -- What is seen with one store more, the k-th.
  newest_more : (k b w old : ℕ) → last_late b w (row_from ls room p first (suc k)) old ≡
      cond (eqb b (get_or ls (place_of room p first k) no_store).block && eqb w (get_or ls (place_of room p first k) no_store).word) (get_or ls (place_of room p first k) no_store).x (last_late b w (row_from ls room p first k) old)
  unfolding row_from
  newest_more k b w old = last_end b w (row_from ls room p first k) (store_of (get_or ls (place_of room p first k) no_store)) old

  -- A store that is one of a row, and what is seen with it: what it puts there if it goes to the word.
  pub put_told : (k b w : ℕ) (goes : Bool) → goes ≡ (eqb b (get_or ls (place_of room p first k) no_store).block && eqb w (get_or ls (place_of room p first k) no_store).word) →
      MatchOption (then_some goes (get_or ls (place_of room p first k) no_store).x) ((old : ℕ) → last_late b w (row_from ls room p first (k + 1)) old ≡ last_late b w (row_from ls room p first k) old) (λ x. (old : ℕ) → last_late b w (row_from ls room p first (k + 1)) old ≡ x)
  put_told k b w true e = λ old. rw (add-one, newest_more k b w old, ← e) refl
  put_told k b w false e = λ old. rw (add-one, newest_more k b w old, ← e) refl

  -- No store of a row goes to a block if none at any of its places does.
  pub none_row : (n b : ℕ) → ((k : ℕ) → k < n → b ≢ (get_or ls (place_of room p first k) no_store).block) → none_to b (row_from ls room p first n) ≡ true
  unfolding row_from none_to
  none_row zero b other = refl
  none_row (suc n) b other =
      let ih = none_row n b (λ k h. other k (omega (arith, h))) in
      none_end b (row_from ls room p first n) _ ∙ and_from _ _ ih (ap not (ne_eqb b (get_or ls (place_of room p first n) no_store).block (other n (omega arith))))

  -- One store of a row that goes to the block.
  pub some_row : (k n b : ℕ) → k < n → b ≡ (get_or ls (place_of room p first k) no_store).block → none_to b (row_from ls room p first n) ≡ false
  unfolding row_from
  some_row k zero b h e = absurd (omega arith)
  some_row k (suc n) b h e = none_end b (row_from ls room p first n) (store_of (get_or ls (place_of room p first n) no_store)) ∙ elim (cases_eq k n) [
    | inl s ↦ and_right _ _ (ap not (eq-eqb b (get_or ls (place_of room p first n) no_store).block (e ∙ ap (λ j. (get_or ls (place_of room p first j) no_store).block) s)))
    | inr s ↦ and_left _ _ (some_row k n b (omega arith) e)
  ]

  -- So a row is known by its places.
  pub row_told : (n b : ℕ) (r : Bool) → MatchBool r ((k : ℕ) → k < n → b ≢ (get_or ls (place_of room p first k) no_store).block) ((k : ℕ) × (k < n) × (b ≡ (get_or ls (place_of room p first k) no_store).block)) → r ≡ none_to b (row_from ls room p first n)
  row_told n b true other = sym (none_row n b other)
  row_told n b false (k, h, e) = sym (some_row k n b h e)

-- What holds of each number of a range, and of some number.
pub range_told : (n : ℕ) (r : Bool) (Yes No : ℕ → Type 0) → MatchBool r (AllWithin Yes (range_with_len 0 n) 0 (length (range_with_len 0 n))) ((k : ℕ) × (k < length (range_with_len 0 n)) × HoldsAt No (range_with_len 0 n) k) → MatchBool r ((k : ℕ) → k < n → Yes k) ((k : ℕ) × (k < n) × No k)
range_told n true Yes No all = λ k h. rw (get_or-range_with_len 0 n k 0 h, zero-add k) at (all k 0 (omega arith) (rw (length-range_with_len 0 n) h))
range_told n false Yes No (k, h, at) = let inside : k < n = rw (length-range_with_len 0 n) at h in (k, inside, rw (get_or-range_with_len 0 n k 0 inside, zero-add k) at (at 0))

-- If no store of the 16 rows goes to a block, no store of any does.
pub none_all : (ls : List LateStore) (room : ℕ) (rs : List Row) (b : ℕ) → length rs ≡ 16 → ((q : ℕ) → q < 16 → none_to b (row_of ls room rs q) ≡ true) → (q : ℕ) → T (none_to b (row_of ls room rs q))
unfolding none_to
none_all ls room rs b few none q = elim (cases_lt q 16) [
  | inl h ↦ rw (none q h) tt
  | inr h ↦ rw (row_past ls room rs q (omega arith)) tt
]
