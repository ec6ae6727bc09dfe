-- Where the new root is not late, arriving changes neither ghosts nor state.
use Rattle.std.proofs.Common.{◌≡◌, ℕ, true, List, [], ◌∷◌, refl, inl, inr}
use Rattle.std.proofs.lemmas.Bool.Decides.{eqb_tells}
use Rattle.routes.specs.Memory.{Mem, Store, Arrives, rest, one, oldest}
use Rattle.routes.specs.Routes.{State}
use Rattle.routes.specs.Invariant.Ghosts.{Ghost}
use Rattle.routes.specs.Invariant.Inv.{Lock, Cpus, Inv}
use Rattle.routes.proofs.Late.Arriving.{oldest_none}
use Rattle.routes.proofs.Invariant.Calm.{plain, calm_inv}

module _ {k : Lock} {g : Ghost} {trail : ℕ → List ℕ} {s : State} {t : ℕ} {c : Cpus} (p : plain g.row ≡ true) where
  -- The oldest store of the one who may have any.
  own_arrives : {m : Mem} (row : List Store) → m.late k.who ≡ row → Inv m k g trail s t c → Inv (oldest k.who row m) k g trail s t c
  unfolding oldest
  own_arrives [] e i = i
  own_arrives (x ∷ xs) e i = calm_inv x xs i p e

  -- The oldest store of anybody.
  one_arrives : {m : Mem} (q : ℕ) → Inv m k g trail s t c → Inv (oldest q (m.late q) m) k g trail s t c
  one_arrives {m} q i = elim (eqb_tells q k.who) [
    | inl e ↦ rw e.1 (own_arrives (m.late k.who) refl i)
    | inr e ↦ rw (oldest_none q m (i.core.others q e.1)) i
  ]

-- Whatever arrives.
pub plain_arrives : {m n : Mem} {k : Lock} {g : Ghost} {trail : ℕ → List ℕ} {s : State} {t : ℕ} {c : Cpus} → Arrives m n → plain g.row ≡ true → Inv m k g trail s t c → Inv n k g trail s t c
plain_arrives (rest m) p i = i
plain_arrives (one q a) p i = plain_arrives a p (one_arrives p q i)
