-- The marks of processors that have something under way, by what is seen next.
-- Assumes nothing.
use Rattle.std.proofs.Common.{◌≡◌, ℕ, ◌<◌, Bool, true, false, List, [], ◌∷◌, length, set, replicate, refl, inl, inr, arith, get_or-set_other, get_or-set_same}
use lib.ListN.{get_or-replicate}
use Rattle.std.proofs.lemmas.Bool.Decides.{eqb_tells}
use Rattle.routes.specs.declared.Answer.{Answer}
use Rattle.routes.specs.declared.Ask.{Ask}
use Rattle.routes.specs.declared.Piece.{Piece}
use Rattle.routes.specs.Routes.{Event, Asked, Told, Turned, under}
use Rattle.world.specs.Worlds.{MarksUnder}

-- nothing is under way at first
pub marks_none : (es : List Event) → es ≡ [] → MarksUnder (replicate 16 false) es
unfolding under
marks_none es e p l = rw e (get_or-replicate 16 p false false l)

-- something begins
pub marks_asked : (bs : List Bool) (es fs : List Event) (p : ℕ) (k : Ask) (ps : List Piece) → MarksUnder bs es → length bs ≡ 16 → p < 16 → fs ≡ Asked p k ps ∷ es → MarksUnder (set bs p true) fs
unfolding under
marks_asked bs es fs p k ps m long h e q l = rw e (elim (eqb_tells q p) [
  | inl t ↦ rw (t.0, t.1, get_or-set_same bs p true false (omega arith)) refl
  | inr t ↦ rw (t.0, get_or-set_other bs p q true false t.1) (m q l)
])

-- something is told
pub marks_told : (bs : List Bool) (es fs : List Event) (p : ℕ) (a : Answer) → MarksUnder bs es → length bs ≡ 16 → p < 16 → fs ≡ Told p a ∷ es → MarksUnder (set bs p false) fs
unfolding under
marks_told bs es fs p a m long h e q l = rw e (elim (eqb_tells q p) [
  | inl t ↦ rw (t.0, t.1, get_or-set_same bs p false false (omega arith)) refl
  | inr t ↦ rw (t.0, get_or-set_other bs p q false false t.1) (m q l)
])

-- a turn is taken
pub marks_turned : (bs : List Bool) (es fs : List Event) (p : ℕ) → MarksUnder bs es → fs ≡ Turned p ∷ es → MarksUnder bs fs
unfolding under
marks_turned bs es fs p m e q l = rw e (m q l)
