-- A memory as it starts.
use Rattle.std.proofs.Common.{◌≡◌, ℕ, ◌+◌, ◌-◌, ◌*◌, ◌<◌, ◌≤◌, Bool, eqb, List, [], length, get_or, drop, ◌++◌, replicate, refl, ap, ◌∙◌, inl, inr, arith}
use Rattle.std.proofs.lemmas.List.{get_or-replicate, get_or_past, get_or_append_left, get_or-append_right, get_or-drop, length-replicate}
use Rattle.std.proofs.lemmas.Bool.{cases_lt, ne_eqb}
use Rattle.std.proofs.lemmas.Bool.Decides.{nat_tests}
use Rattle.routes.specs.Counts.Counts.{bit}
use Rattle.routes.proofs.Counts.Sums.{sum_same, sum_hit, sum_at}
use Rattle.memory.specs.declared.row.LateStore.{LateStore}
use Rattle.memory.specs.Words.{val_of}
use Rattle.memory.specs.Pools.{held_of, held_count, StackFree, StackApart, AllCounted}
use Rattle.memory.specs.Rings.{no_store, no_row, row_from, row_of, RowsIn, StoresIn}

-- Block 0 is noughts.
pub start_val : (ws : List ℕ) → ((w : ℕ) → w < 48 → get_or ws w 0 ≡ 0) → (w : ℕ) → val_of ws 0 w ≡ 0
start_val ws zero w = elim (cases_lt w 48) [
  | inl h ↦ (let place : 48 * 0 + w ≡ w = omega arith in let read = zero w h in rw (place, read) (grind (arith, nat_tests)))
  | inr h ↦ grind (arith, nat_tests)
]

-- The first 48 words are noughts, and the others as they were.
pub first_cleared : (vs ws : List ℕ) → vs ≡ replicate 48 0 → ((w : ℕ) → w < 48 → get_or (vs ++ drop 48 ws) w 0 ≡ 0) × ((i : ℕ) → 48 ≤ i → get_or (vs ++ drop 48 ws) i 0 ≡ get_or ws i 0)
first_cleared vs ws e =
    let long : length vs ≡ 48 = ap length e ∙ length-replicate {A = ℕ} 48 0 in (
      (λ w h. get_or_append_left vs (drop 48 ws) 0 w (rw long h) ∙ (ap (λ l. get_or l w 0) e ∙ get_or-replicate 48 w 0 0 h)),
      (λ i h. let place : 48 + (i - 48) ≡ i = omega (arith, h) in get_or-append_right vs (drop 48 ws) 48 i 0 long h ∙ (get_or-drop 48 ws (i - 48) 0 ∙ ap (λ k. get_or ws k 0) place)),
    )

-- Other blocks are as they were.
pub start_kept : (ws vs : List ℕ) → ((i : ℕ) → 48 ≤ i → get_or ws i 0 ≡ get_or vs i 0) → (b w : ℕ) → 0 < b → val_of ws b w ≡ val_of vs b w
start_kept ws vs same b w h = rw (same (48 * b + w) (omega arith)) refl

-- All rows are empty.
pub start_row : (p : ℕ) → get_or (replicate 16 no_row) p no_row ≡ no_row
start_row p = elim (cases_lt p 16) [
  | inl h ↦ get_or-replicate 16 p no_row no_row h
  | inr h ↦ get_or_past (replicate 16 no_row) p no_row h
]

pub start_late : (ls : List LateStore) (room p : ℕ) → row_of ls room (replicate 16 no_row) p ≡ []
unfolding row_from
start_late ls room p = rw (start_row p) refl

pub start_rows_in : (room : ℕ) → 0 < room → RowsIn room (replicate 16 no_row)
start_rows_in room some p = rw (start_row p) (some, omega arith)

pub start_stores_in : (blocks : ℕ) (ls : List LateStore) → 0 < blocks → ((i : ℕ) → get_or ls i no_store ≡ no_store) → StoresIn blocks ls
start_stores_in blocks ls some blank i = rw (blank i) (some, omega arith, omega arith)

-- One block is held.
first_count : (n : ℕ) (held : ℕ → Bool) → 0 < n → ((b : ℕ) → held b ≡ eqb b 0) → held_count n held ≡ 1
first_count n held some first =
    let same = sum_same n (λ b. bit (held b)) (λ b. bit (eqb b 0)) (λ b h. ap bit (first b)) in
    let most = sum_hit n 0 in
    let least = sum_at n 0 (λ b. bit (eqb b 0)) some in
    omega arith

module _ (blocks : ℕ) (hs : List Bool) (fs : List ℕ) (some : 0 < blocks) (first : (b : ℕ) → held_of hs b ≡ eqb b 0) (stack : (i : ℕ) → i < blocks - 1 → get_or fs i 0 ≡ blocks - 1 - i) where
  -- All others are on the stack, each once.
  pub start_free : StackFree blocks hs fs (blocks - 1)
  start_free i h = rw (stack i h) (omega arith, first (blocks - 1 - i) ∙ ne_eqb (blocks - 1 - i) 0 (omega arith))

  pub start_apart : StackApart fs (blocks - 1)
  start_apart i j h = omega (arith, stack i h.0, stack j h.1)

  pub start_count : AllCounted blocks hs (blocks - 1)
  start_count = omega (arith, first_count blocks (held_of hs) some first)
