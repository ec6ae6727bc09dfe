-- Only one processor has late stores.
use Rattle.std.proofs.Common.{◌≡◌, ℕ, true, T, List, [], ◌∷◌, ◌++◌, refl, ap, ◌∙◌, inl, inr}
use Rattle.std.proofs.lemmas.Bool.Decides.{eqb_tells}
use Rattle.routes.specs.Memory.{Mem, Store, stored, none_to}
use Rattle.routes.specs.Late.Rows.{OnlyLate, store_of}
use Rattle.routes.specs.Late.Steps.{landed}
use Rattle.routes.proofs.Basics.Places.{set_at_hit, set_at_miss}

-- A store is added at the end of its processor's row.
pub row-stored : (p b w x : ℕ) (m : Mem) → (stored p b w x m).late p ≡ m.late p ++ (store_of b w x ∷ [])
row-stored p b w x m = set_at_hit p p (m.late p ++ (store_of b w x ∷ [])) m.late refl

-- When the oldest has arrived the rest of the row is left.
pub row-landed : (p : ℕ) (s : Store) (ss : List Store) (m : Mem) → (landed p s ss m).late p ≡ ss
row-landed p s ss m = set_at_hit p p ss m.late refl

-- A store of h's leaves h the only one with late stores.
pub only_stored : (h b w x : ℕ) (m : Mem) → OnlyLate h m → OnlyLate h (stored h b w x m)
only_stored h b w x m only q ne = set_at_miss h q (m.late h ++ (store_of b w x ∷ [])) m.late ne ∙ only q ne

-- So does the arrival of its oldest.
pub only_landed : (h : ℕ) (s : Store) (ss : List Store) (m : Mem) → OnlyLate h m → OnlyLate h (landed h s ss m)
only_landed h s ss m only q ne = set_at_miss h q ss m.late ne ∙ only q ne

-- If h has none either, nothing is late.
pub only_none : (h : ℕ) (m : Mem) → OnlyLate h m → m.late h ≡ [] → (q : ℕ) → m.late q ≡ []
only_none h m only e q = elim (eqb_tells q h) [ inl i ↦ ap m.late i.1 ∙ e | inr i ↦ only q i.1 ]

-- Then anyone may be called the only one.
pub only_anyone : (h k : ℕ) (m : Mem) → OnlyLate h m → m.late h ≡ [] → OnlyLate k m
only_anyone h k m only e q ne = only_none h m only e q

-- If no store of h's goes to block b, none does.
pub only_none_to : (h b : ℕ) (m : Mem) → OnlyLate h m → none_to b (m.late h) ≡ true → (q : ℕ) → T (none_to b (m.late q))
unfolding none_to
only_none_to h b m only e q = elim (eqb_tells q h) [ inl i ↦ rw (i.1, e) tt | inr i ↦ rw (only q i.1) tt ]
