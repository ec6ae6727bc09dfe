-- A fence is arriving, and a swap is a fence and then one word set at once.
use Rattle.std.proofs.Common.{◌≡◌, ℕ, cond, eqb, List, [], ◌∷◌, sym, refl, ◌∙◌, subst}
use Rattle.routes.specs.Memory.{Mem, Store, sees, arrived, fenced, swapped, counted, Arrives, rest, one, oldest}
use Rattle.routes.specs.Late.Steps.{landed, set_word}
use Rattle.routes.proofs.Basics.Places.{set_at_hit, set_at_again, set_at_same}
use Rattle.routes.proofs.Late.Sees.{arrived_is, sees_none}
use Rattle.routes.proofs.Late.Arriving.{arrives_on, arrives_empty}

-- A fence leaves nothing of its processor late.
pub fence_empties : (p : ℕ) (m : Mem) → (fenced p m).late p ≡ []
fence_empties p m = set_at_hit p p [] m.late refl

-- What is there after a fence is what its processor saw before.
pub fence_val : (p b w : ℕ) (m : Mem) → (fenced p m).val b w ≡ sees p b w m
fence_val p b w m = arrived_is (m.late p) m.val b w

-- Who has no late stores changes nothing by a fence.
pub fence_none : (p : ℕ) (m : Mem) → m.late p ≡ [] → fenced p m ≡ m
unfolding arrived
fence_none p m e = rw (e, set_at_same p [] m.late e)

-- The stores of a row arrive one after the other.
row_arrives : (p : ℕ) (row : List Store) (m : Mem) → m.late p ≡ row → Arrives m (fenced p m)
unfolding oldest arrived
row_arrives p [] m e = rw (fence_none p m e) (rest m)
row_arrives p (s ∷ ss) m e =
    let hit = set_at_hit p p ss m.late refl in
    let behind = row_arrives p ss (landed p s ss m) hit in
    one p (rw e (rw (hit, set_at_again p [] ss m.late) at behind))

-- A fence is arriving.
pub fence_arrives_lem : (p : ℕ) (m : Mem) → Arrives m (fenced p m)
fence_arrives_lem p m = row_arrives p (m.late p) m refl

-- With what arrives after it, a fence is no more than arriving that ends with its processor's row empty.
pub fence_whole : (p : ℕ) (m : Mem) {n : Mem} → Arrives (counted (fenced p m)) n → Arrives (counted m) n × (n.late p ≡ [])
fence_whole p m a = (arrives_on (fence_arrives_lem p (counted m)) a, arrives_empty p a (fence_empties p m))

-- Who has no late stores changes by a swap one word, if it was `old`.
pub swap_none : (p b w old x : ℕ) (m : Mem) → m.late p ≡ [] → swapped p b w old x m ≡ cond (eqb (m.val b w) old) (set_word b w x m) m
swap_none p b w old x m e =
    subst (λ k. cond (eqb (k.val b w) old) (set_word b w x k) k ≡ cond (eqb (m.val b w) old) (set_word b w x m) m) (sym (fence_none p m e)) refl

-- And what it is told was there is what is there.
pub swap_reply : (p b w : ℕ) (m : Mem) → m.late p ≡ [] → (fenced p m).val b w ≡ m.val b w
swap_reply p b w m e = fence_val p b w m ∙ sees_none p b w m e

-- A swap is a fence, and then a swap by one who has no late stores.
pub swap_fenced : (p b w old x : ℕ) (m : Mem) → swapped p b w old x m ≡ cond (eqb ((fenced p m).val b w) old) (set_word b w x (fenced p m)) (fenced p m)
swap_fenced p b w old x m = refl
