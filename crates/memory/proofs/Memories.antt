-- What a write to one of the slices is in the memory that they stand for.
use Rattle.std.proofs.Common.{◌≡◌, ℕ, ◌+◌, ◌-◌, ◌*◌, ◌<◌, ◌≤◌, Bool, true, List, [], ◌∷◌, length, get_or, set, is_some, Some, None, Option, sym, refl, ◌∙◌}
use Rattle.std.proofs.lemmas.Bool.{lt-ltb}
use Rattle.std.specs.Option.{option_map}
use Rattle.routes.specs.Memory.{Mem, Store, with', set_val, set_at, stored, oldest}
use Rattle.memory.specs.declared.row.LateStore.{LateStore}
use Rattle.memory.specs.declared.row.Row.{Row}
use Rattle.memory.specs.Words.{word_at}
use Rattle.memory.specs.Rings.{no_store, no_row, store_of, wrapped, place_of, row_from, row_of, any_late, first_of}
use Rattle.memory.specs.Memories.{mem_at}
use Rattle.memory.proofs.Words.{val_set}
use Rattle.memory.proofs.Pools.{held_set}
use Rattle.memory.proofs.Rings.{row_first, row_any, rows_set, rows_push}

-- Memories are the same if their words, marks and rows are.
pub mem_same : {v u : ℕ → ℕ → ℕ} {h k : ℕ → Bool} {l r : ℕ → List Store} (m : Mem) → v ≡ u → h ≡ k → l ≡ r → with' v h l m ≡ with' u k r m
mem_same m e f g = λ i. with' (e i) (f i) (g i) m

module _ (cpus blocks room : ℕ) (ws : List ℕ) (hs : List Bool) (ls : List LateStore) (rs : List Row) (left who : ℕ) where
  abbrev here : Mem
  here = mem_at cpus blocks room ws hs ls rs left who

  -- One word is written.
  pub word_set : (b w x at : ℕ) → at ≡ word_at b w → w < 48 → at < length ws → x < 18446744073709551616 → mem_at cpus blocks room (set ws at x) hs ls rs left who ≡ with' (set_val b w x here.val) here.held here.late here
  word_set b w x at place h inside fits = rw place (mem_same here (val_set ws b w x h (rw place at inside) fits) refl refl)

  -- One mark is written.
  pub mark_set : (b : ℕ) (y : Bool) → b < length hs → mem_at cpus blocks room ws (set hs b y) ls rs left who ≡ with' here.val (set_at b y here.held) here.late here
  mark_set b y h = mem_same here refl (held_set hs b y h) refl

  -- A store is put behind the last of a row.
  pub store_pushed : (p at : ℕ) (e : LateStore) → length ls ≡ 16 * room → length rs ≡ 16 → p < 16 → (get_or rs p no_row).first < room → (get_or rs p no_row).many < room →
      at ≡ place_of room p (get_or rs p no_row).first (get_or rs p no_row).many →
      mem_at cpus blocks room ws hs (set ls at e) (set rs p (record { first = (get_or rs p no_row).first; many = (get_or rs p no_row).many + 1 })) left who ≡ stored p e.block e.word e.x here
  store_pushed p at e long few h f r place =
      rw place (mem_same here refl refl (rows_push ls e room rs p (get_or rs p no_row).first (get_or rs p no_row).many long few h f r))

  -- No store of an empty row arrives.
  pub none_landed : (p : ℕ) → (get_or rs p no_row).many ≡ 0 → here ≡ oldest p (here.late p) here
  unfolding oldest row_from
  none_landed p none = rw none refl

  -- The first of a row arrives.
  pub store_landed : (p at next : ℕ) (s : LateStore) → p < length rs → (get_or rs p no_row).first < room → 0 < (get_or rs p no_row).many → (get_or rs p no_row).many ≤ room →
      s ≡ get_or ls (16 * (get_or rs p no_row).first + p) no_store → s.word < 48 → word_at s.block s.word < length ws → s.x < 18446744073709551616 →
      at ≡ word_at s.block s.word → next ≡ wrapped room ((get_or rs p no_row).first + 1) →
      mem_at cpus blocks room (set ws at s.x) hs ls (set rs p (record { first = next; many = (get_or rs p no_row).many - 1 })) left who ≡ oldest p (here.late p) here
  unfolding oldest
  store_landed p at next s h f some fits e low inside small place slot =
      rw (row_first ls room p (get_or rs p no_row).first (get_or rs p no_row).many f some fits, ← e, place, slot)
      (mem_same here (val_set ws s.block s.word s.x low inside small) refl (rows_set ls room rs p (record { first = wrapped room ((get_or rs p no_row).first + 1); many = (get_or rs p no_row).many - 1 }) h))

-- There is a late store of p if its row's count is not 0.
pub some_any : (ls : List LateStore) (room : ℕ) (rs : List Row) (p : ℕ) → 0 < (get_or rs p no_row).many → true ≡ any_late (row_of ls room rs p)
some_any ls room rs p some = sym (row_any ls room p (get_or rs p no_row).first (get_or rs p no_row).many ∙ lt-ltb 0 (get_or rs p no_row).many some)

-- What is handed back tells whether there was one.
pub told_any : (r : Option LateStore) (row : List Store) → option_map store_of r ≡ first_of row → is_some r ≡ any_late row
unfolding first_of any_late
told_any None [] e = refl
told_any (Some s) (t ∷ row) e = refl
told_any None (t ∷ row) e = absurd (cc)
told_any (Some s) [] e = absurd (cc)
