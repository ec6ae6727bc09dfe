-- What is in use may be touched.
use Rattle.std.proofs.Common.{◌≡◌, ℕ, ◌<◌, ◌≤◌, Bool, List}
use Rattle.routes.specs.Memory.{Mem, MayTouch}
use Rattle.routes.specs.Routes.{Route}
use Rattle.routes.specs.Invariant.Ghosts.{Ghost}
use Rattle.routes.specs.Invariant.Memories.{Core}
use Rattle.routes.proofs.Invariant.Apart.{uses, used_held, used_inside, header_held, header_inside}

-- p may ask in this turn
pub record MayAsk (m : Mem) (p : ℕ) : Type 0 where
  pub once : 0 < m.left
  pub turn : p ≡ m.who
  pub inside : p < m.cpus

module _ {m : Mem} {h p : ℕ} {locked : Bool} {g : Ghost} {rs : List Route} {t : ℕ} (c : Core m h locked g rs t) (a : MayAsk m p) where
  -- A word of a block of the tree, of limbo or of a fresh one.
  pub used_touch : (b w : ℕ) → 1 ≤ uses g b → w < 48 → MayTouch m p b w
  used_touch b w u l = (a.once, a.turn, a.inside, used_inside c b u, rw (used_held c b u) tt, l)

  -- A word of the header.
  pub header_touch : (w : ℕ) → w < 48 → MayTouch m p 0 w
  header_touch w l = (a.once, a.turn, a.inside, header_inside c, rw (header_held c) tt, l)
