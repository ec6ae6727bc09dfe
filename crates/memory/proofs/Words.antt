-- What is in the words after a write.
use Rattle.std.proofs.Common.{◌≡◌, ℕ, ◌<◌, ◌≤◌, true, false, ◌&&◌, eqb, List, length, get_or, set, refl, inl, inr, arith, get_or-set_other, get_or-set_same}
use mathlib.Core.Path.{fun_ext}
use Rattle.std.proofs.lemmas.Bool.{cases_eq, cases_lt, lt-ltb, le-ltb}
use Rattle.std.proofs.lemmas.Bool.Decides.{nat_tests}
use Rattle.routes.specs.Memory.{set_val}
use Rattle.memory.specs.Words.{word_at, val_of}

-- A word has 64 bits.
pub val_small : (ws : List ℕ) (b w : ℕ) → val_of ws b w < 18446744073709551616
val_small ws b w = grind (arith, nat_tests)

-- A word that fits is read as it stands.
pub val_read : (ws : List ℕ) (b w at : ℕ) → at ≡ word_at b w → w < 48 → get_or ws at 0 < 18446744073709551616 → val_of ws b w ≡ get_or ws at 0
val_read ws b w at place h fits = rw (← place, lt-ltb w 48 h) (omega arith)

-- Two words stand at one place only if they are the same.
same_place : (b w c v : ℕ) → w < 48 → v < 48 → word_at c v ≡ word_at b w → (eqb c b && eqb v w) ≡ true
same_place b w c v h k e = grind (arith, nat_tests)

other_place : (b w c v : ℕ) → (word_at c v ≡ word_at b w → ⊥) → (eqb c b && eqb v w) ≡ false
other_place b w c v n = grind (arith, nat_tests)

past_words : (b w c v : ℕ) → w < 48 → 48 ≤ v → (eqb c b && eqb v w) ≡ false
past_words b w c v h k = grind (arith, nat_tests)

-- One word is written.
val_set_at : (ws : List ℕ) (b w x : ℕ) → w < 48 → word_at b w < length ws → x < 18446744073709551616 → (c v : ℕ) → val_of (set ws (word_at b w) x) c v ≡ set_val b w x (val_of ws) c v
val_set_at ws b w x h inside fits c v = elim (cases_lt v 48) [
  | inl k ↦ elim (cases_eq (word_at c v) (word_at b w)) [
    | inl e ↦ rw (same_place b w c v h k e, lt-ltb v 48 k, e, get_or-set_same ws (word_at b w) x 0 inside) (omega arith)
    | inr n ↦ rw (other_place b w c v n, lt-ltb v 48 k, get_or-set_other ws (word_at b w) (word_at c v) x 0 n) refl
  ]
  | inr k ↦ rw (past_words b w c v h k, le-ltb v 48 k) refl
]

pub val_set : (ws : List ℕ) (b w x : ℕ) → w < 48 → word_at b w < length ws → x < 18446744073709551616 → val_of (set ws (word_at b w) x) ≡ set_val b w x (val_of ws)
val_set ws b w x h inside fits = fun_ext (λ c. fun_ext (λ v. val_set_at ws b w x h inside fits c v))
