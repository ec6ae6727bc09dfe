-- What each step does to the view of a processor.
use Rattle.std.proofs.Common.{◌≡◌, ℕ, ◌<◌, ◌≤◌, true, false, cond, ◌&&◌, eqb, List, [], ◌∷◌, sym, refl, ◌∙◌, inl, inr, arith}
use mathlib.Core.Path.{fun_ext}
use Rattle.std.proofs.lemmas.Bool.Decides.{nat_tests}
use Rattle.std.proofs.lemmas.Bool.{cases_Bool}
use Rattle.routes.specs.Memory.{Mem, Store, set_val, sees, stored, fenced, released, counted, allowed, Arrives}
use Rattle.routes.specs.Late.Rows.{OnlyLate}
use Rattle.routes.specs.Late.View.{masked, view}
use Rattle.routes.specs.Late.Steps.{landed, set_word, obtained}
use Rattle.routes.proofs.Late.Sees.{sees_none, sees-stored, sees-landed}
use Rattle.routes.proofs.Late.Arriving.{arrives_sees}
use Rattle.routes.proofs.Late.Fence.{fence_empties, fence_val}

-- What lookups announce is masked.
pub masked_high : (w : ℕ) → 16 ≤ w → masked 0 w ≡ true
masked_high w l = grind (arith, nat_tests)

-- Of block 0 the words from 1 to 15 are open.
pub open_low : (w : ℕ) → 0 < w → w < 16 → masked 0 w ≡ false
open_low w l k = grind (arith, nat_tests)

-- Other blocks are open.
pub open_block : (b w : ℕ) → (b ≡ 0 → ⊥) → masked b w ≡ false
open_block b w ne = grind (arith, nat_tests)

-- Of an open word the view is what is seen.
pub view_open : (h : ℕ) (m : Mem) (b w : ℕ) → masked b w ≡ false → view h m b w ≡ sees h b w m
unfolding view
view_open h m b w e = rw e refl

-- Of a masked word it is 0.
pub view-masked : (h : ℕ) (m : Mem) (b w : ℕ) → masked b w ≡ true → view h m b w ≡ 0
unfolding view
view-masked h m b w e = rw e refl

-- Who has no late stores views what is there.
pub view_none : (h : ℕ) (m : Mem) (b w : ℕ) → m.late h ≡ [] → masked b w ≡ false → view h m b w ≡ m.val b w
view_none h m b w l e = view_open h m b w e ∙ sees_none h b w m l

-- Views are the same if the same is seen of each open word.
pub view_same : (h k : ℕ) (m n : Mem) → ((b w : ℕ) → masked b w ≡ false → sees h b w m ≡ sees k b w n) → view h m ≡ view k n
unfolding view
view_same h k m n same = fun_ext (λ b. fun_ext (λ w. elim (cases_Bool (masked b w)) [
  | inl e ↦ rw e refl
  | inr e ↦ rw e (same b w e)
]))

-- A view is another with an open word set if what is seen of each open word is.
pub view_sets : (h k b w x : ℕ) (m n : Mem) → masked b w ≡ false → ((c v : ℕ) → sees h c v m ≡ cond (eqb c b && eqb v w) x (sees k c v n)) → view h m ≡ set_val b w x (view k n)
unfolding view
view_sets h k b w x m n shows sets = fun_ext (λ c. fun_ext (λ v. (let here = sets c v in grind (arith, nat_tests))))

-- That memory was asked for something does not show.
pub view-counted : (h : ℕ) (m : Mem) → view h (counted m) ≡ view h m
unfolding view
view-counted h m = refl

-- Nor that a turn begins.
pub view-allowed : (h p : ℕ) (m : Mem) → view h (allowed p m) ≡ view h m
unfolding view
view-allowed h p m = refl

-- Where two have no late stores, their views are the same.
pub view_anyone : (h k : ℕ) (m : Mem) → m.late h ≡ [] → m.late k ≡ [] → view h m ≡ view k m
view_anyone h k m e f = view_same h k m m (λ b w shows. sees_none h b w m e ∙ sym (sees_none k b w m f))

-- A store sets one word of its processor's view.
pub view-stored : (p b w x : ℕ) (m : Mem) → masked b w ≡ false → view p (stored p b w x m) ≡ set_val b w x (view p m)
view-stored p b w x m shows = view_sets p p b w x (stored p b w x m) m shows (λ c v. (let s = sees-stored p b w x p c v m in grind (arith, nat_tests)))

-- It does not show when its own oldest store arrives.
pub view-landed : (p : ℕ) (s : Store) (ss : List Store) (m : Mem) → m.late p ≡ s ∷ ss → view p (landed p s ss m) ≡ view p m
view-landed p s ss m e = view_same p p (landed p s ss m) m (λ b w shows. sees-landed p b w s ss m e)

-- Who alone has late stores does not see them arrive.
pub view_arrives : (h : ℕ) {m n : Mem} → Arrives m n → OnlyLate h m → view h n ≡ view h m
view_arrives h {m} {n} a only = view_same h h n m (λ b w shows. arrives_sees h b w a only)

-- A fence does not show to its own processor.
pub view-fenced : (p : ℕ) (m : Mem) → view p (fenced p m) ≡ view p m
view-fenced p m = view_same p p (fenced p m) m (λ b w shows. sees_none p b w (fenced p m) (fence_empties p m) ∙ fence_val p b w m)

-- A masked word that is set at once does not show.
pub view-word-masked : (h b w x : ℕ) (m : Mem) → masked b w ≡ true → view h (set_word b w x m) ≡ view h m
view-word-masked h b w x m hides = view_same h h (set_word b w x m) m (λ c v shows. (let here : set_val b w x m.val c v ≡ m.val c v = grind (arith, nat_tests) in rw here refl))

-- An open word that is set at once is set in the view of one who has no late stores.
pub view-word_open : (h b w x : ℕ) (m : Mem) → m.late h ≡ [] → masked b w ≡ false → view h (set_word b w x m) ≡ set_val b w x (view h m)
view-word_open h b w x m e shows = view_sets h h b w x (set_word b w x m) m shows (λ c v. sees_none h c v (set_word b w x m) e ∙ (let s = sees_none h c v m e in rw s refl))

-- A block that is got, with anything in it, shows only there.
pub view-obtained : (h b : ℕ) (f : ℕ → ℕ → ℕ) (m : Mem) → ((c v : ℕ) → (c ≡ b → ⊥) → f c v ≡ m.val c v) → (c v : ℕ) → (c ≡ b → ⊥) → view h (obtained b f m) c v ≡ view h m c v
unfolding view
view-obtained h b f m same c v ne = rw (same c v ne) refl

-- To give a block back does not show.
pub view-released : (h b : ℕ) (m : Mem) → view h (released b m) ≡ view h m
unfolding view
view-released h b m = refl
