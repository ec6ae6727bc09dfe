-- What a processor sees: its own latest store to a word that has not arrived, or what is there.
use Rattle.std.proofs.Common.{◌≡◌, ℕ, cond, ◌&&◌, eqb, List, [], ◌∷◌, ◌++◌, refl, inl, inr}
use Rattle.std.proofs.lemmas.Bool.Decides.{eqb_tells}
use Rattle.routes.specs.Memory.{Mem, Store, set_val, last_late, sees, arrived, stored}
use Rattle.routes.specs.Late.Rows.{AllRow, store_of}
use Rattle.routes.specs.Late.Steps.{landed}
use Rattle.routes.proofs.Basics.Places.{set_at_hit}
use Rattle.routes.proofs.Late.Rows.{last_untouched}

-- The store at the end of a row is the latest.
last_end : (b w : ℕ) (ss : List Store) (c v x old : ℕ) → last_late b w (ss ++ (store_of c v x ∷ [])) old ≡ cond (eqb b c && eqb w v) x (last_late b w ss old)
unfolding last_late
last_end b w [] c v x old = refl
last_end b w (s ∷ ss) c v x old = last_end b w ss c v x _

-- Who has no late stores sees what is there.
pub sees_none : (p b w : ℕ) (m : Mem) → m.late p ≡ [] → sees p b w m ≡ m.val b w
unfolding last_late
sees_none p b w m e = rw e refl

-- A word to which none of its late stores goes is seen as it is there.
pub sees_untouched : (P : ℕ → ℕ → ℕ → Type 0) (p b w : ℕ) (m : Mem) → ((x : ℕ) → P b w x → ⊥) → AllRow P (m.late p) → sees p b w m ≡ m.val b w
sees_untouched P p b w m never a = last_untouched P b w never (m.late p) (m.val b w) a

-- A store is seen at once by its own processor, and by nobody else.
pub sees-stored : (p b w x q c v : ℕ) (m : Mem) → sees q c v (stored p b w x m) ≡ cond (eqb q p && (eqb c b && eqb v w)) x (sees q c v m)
sees-stored p b w x q c v m = elim (eqb_tells q p) [
  | inl e ↦ rw (e.0, e.1) (last_end c v (m.late p) b w x (m.val c v))
  | inr e ↦ rw e.0 refl
]

-- When all of a row has arrived, what is there is what was seen.
pub arrived_is : (ss : List Store) (f : ℕ → ℕ → ℕ) (b w : ℕ) → arrived ss f b w ≡ last_late b w ss (f b w)
unfolding arrived last_late
arrived_is [] f b w = refl
arrived_is (s ∷ ss) f b w = arrived_is ss (set_val s.block s.word s.x f) b w

-- A processor does not see its own oldest store arrive.
pub sees-landed : (p b w : ℕ) (s : Store) (ss : List Store) (m : Mem) → m.late p ≡ s ∷ ss → sees p b w (landed p s ss m) ≡ sees p b w m
unfolding last_late
sees-landed p b w s ss m e = rw (set_at_hit p p ss m.late refl, e) refl
