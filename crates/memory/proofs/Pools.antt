-- The pool: a block is taken from the top of the stack, or put back there.
use Rattle.std.proofs.Common.{◌≡◌, ℕ, ◌+◌, ◌-◌, ◌<◌, ◌≤◌, Bool, true, false, ◌≢◌, List, length, get_or, set, sym, ap, ◌∙◌, subst, inl, inr, arith, get_or-set_other, get_or-set_same}
use mathlib.Core.Path.{fun_ext}
use Rattle.std.proofs.lemmas.Bool.{cases_eq, cases_Bool, both_ways}
use Rattle.std.proofs.lemmas.Bool.Decides.{nat_tests}
use Rattle.routes.specs.Memory.{set_at}
use Rattle.routes.specs.Counts.Counts.{bit}
use Rattle.routes.proofs.Counts.Sums.{sum-set, sum_le, sum_ones, sum_at}
use Rattle.memory.specs.Pools.{held_of, held_count, StackFree, StackApart, AllCounted}
use Rattle.memory.proofs.Places.{set_at_lem}

-- One mark is written.
pub held_set : (hs : List Bool) (b : ℕ) (y : Bool) → b < length hs → held_of (set hs b y) ≡ set_at b y (held_of hs)
held_set hs b y h = fun_ext (set_at_lem hs b y false h)

-- A block's mark tells in the count.
pub count_set : (n : ℕ) (hs : List Bool) (b : ℕ) (y : Bool) → b < length hs → b < n → held_count n (held_of (set hs b y)) + bit (held_of hs b) ≡ held_count n (held_of hs) + bit y
count_set n hs b y h k =
    subst (λ held. held_count n held + bit (held_of hs b) ≡ held_count n (held_of hs) + bit y) (sym (held_set hs b y h)) (sum-set bit n b y (held_of hs) k)

-- At most all blocks are held.
count_most : (n : ℕ) (held : ℕ → Bool) → held_count n held ≤ n
count_most n held = omega (arith, sum_le n (λ b. bit (held b)) (λ b. 1) (λ b h. grind (arith, nat_tests)), sum_ones n)

-- If none is free, all are held.
pub all_held : (blocks : ℕ) (hs : List Bool) → length hs ≡ blocks → AllCounted blocks hs 0 → (b : ℕ) → b < blocks → held_of hs b ≡ true
all_held blocks hs marked all b h = elim (cases_Bool (held_of hs b)) [
  | inl e ↦ e
  | inr e ↦ (let more = count_set blocks hs b true (omega arith) h in let most = count_most blocks (held_of (set hs b true)) in absurd (omega (arith, rw e at more)))
]

module _ (blocks : ℕ) (hs : List Bool) (fs : List ℕ) (n : ℕ) (marked : length hs ≡ blocks) (free : StackFree blocks hs fs n) (apart : StackApart fs n) (all : AllCounted blocks hs n) where
  -- The block on top of the stack is got: those below it are still free.
  pub obtained_free : (b : ℕ) → 0 < n → b ≡ get_or fs (n - 1) 0 → StackFree blocks (set hs b true) fs (n - 1)
  obtained_free b some top i h =
      let f = free i (omega arith) in
      let other : get_or fs i 0 ≢ b = λ e. (let same = apart i (n - 1) (omega arith, omega arith, e ∙ top) in omega arith) in
      (f.0, get_or-set_other hs b (get_or fs i 0) true false other ∙ f.1)

  -- No block stands twice among fewer.
  pub obtained_apart : StackApart fs (n - 1)
  obtained_apart i j h = apart i j (omega arith, omega arith, h.2)

  -- One more is held, one less is free.
  pub obtained-count : (b : ℕ) → 0 < n → b < blocks → held_of hs b ≡ false → AllCounted blocks (set hs b true) (n - 1)
  obtained-count b some h e =
      let more = count_set blocks hs b true (omega arith) h in
      omega (arith, rw e at more)

  -- Where a block is held, there is room on the stack.
  pub stack_room : (b : ℕ) → b < blocks → held_of hs b ≡ true → n < blocks
  stack_room b h e = omega (arith, rw e at (sum_at blocks b (λ c. bit (held_of hs c)) h))

  -- A held block does not stand on the stack.
  not_stacked : (b : ℕ) → held_of hs b ≡ true → (i : ℕ) → i < n → get_or fs i 0 ≡ b → ⊥
  not_stacked b e i h q = both_ways (held_of hs b) (ap (held_of hs) (sym q) ∙ (free i h).1) e

  -- It is put on top: all on the stack are free.
  pub released_free : (b : ℕ) → b < blocks → held_of hs b ≡ true → n < length fs → StackFree blocks (set hs b false) (set fs n b) (n + 1)
  released_free b h e room i k = elim (cases_eq i n) [
    | inl s ↦ rw (s, get_or-set_same fs n b 0 room) (h, get_or-set_same hs b false false (omega arith))
    | inr s ↦
        (let below : i < n = omega arith in
        let f = free i below in
        rw (get_or-set_other fs n i b 0 s) (f.0, get_or-set_other hs b (get_or fs i 0) false false (not_stacked b e i below) ∙ f.1))
  ]

  -- No block stands twice.
  pub released_apart : (b : ℕ) → held_of hs b ≡ true → n < length fs → StackApart (set fs n b) (n + 1)
  released_apart b e room i j h =
      let at_i = set_at_lem fs n b 0 room i in
      let at_j = set_at_lem fs n b 0 room j in
      let new_i : i < n → get_or fs i 0 ≡ b → ⊥ = not_stacked b e i in
      let new_j : j < n → get_or fs j 0 ≡ b → ⊥ = not_stacked b e j in
      let old : (i < n) × (j < n) × (get_or fs i 0 ≡ get_or fs j 0) → i ≡ j = apart i j in
      grind (arith, nat_tests)

  -- One less is held, one more is free.
  pub released-count : (b : ℕ) → b < blocks → held_of hs b ≡ true → AllCounted blocks (set hs b false) (n + 1)
  released-count b h e =
      let less = count_set blocks hs b false (omega arith) h in
      omega (arith, rw e at less)
