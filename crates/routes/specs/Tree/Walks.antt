-- A walk down a tree by an address; and trees that hold a table's routes.
-- Assumes nothing.
use Rattle.std.specs.Prelude.{◌≡◌, ℕ, zero, suc, ◌+◌, ◌*◌, ◌<◌, List, length, Some, None, Option}
use Rattle.words.specs.declared.slot.Fit.{Fit}
use Rattle.words.specs.Address.{nib, place}
use Rattle.words.specs.Slots.{best_fit}
use Rattle.routes.specs.declared.Answer.{Answer}
use Rattle.routes.specs.declared.Answer.TheVariants.{Found}
use Rattle.routes.specs.Routes.{Route}
use Rattle.routes.specs.Table.Tables.{Clean, Sound}
use Rattle.routes.specs.Table.Lookups.{lookup}
use Rattle.routes.specs.Keys.Keys.{way_of, Nibbles}
use Rattle.routes.specs.Tree.Trees.{Tree, routes_of, kids_of, look, routes, Proper, Deep}

-- the node of level e on an address's way
unfoldable pub down : ℕ → ℕ → Tree → Tree
down a zero t = t
down a (suc e) t = kids_of (down a e t) (nib e a)

-- a route that fits at level d goes before what was best above
abbrev pub better : ℕ → Option Fit → Answer → Answer
better d None best = best
better d (Some f) best = Found (4 * d + f.extra) f.tells

-- from level d on, k levels: the best route of each node goes before those above
unfoldable pub walk : ℕ → ℕ → ℕ → Tree → Answer → Answer
walk zero d a t best = best
walk (suc k) d a t best = walk k (suc d) a (kids_of t (nib d a)) (better d (best_fit (routes_of t) (nib d a)) best)

-- a tree has the routes of a table, each at its key, and nothing else
pub record Good (t : Tree) (rs : List Route) : Type 0 where
  pub looks : (len bits : ℕ) → Clean len bits → look (way_of len bits) (place len bits) t ≡ lookup len bits rs
  pub last : (ns : List ℕ) (x : ℕ) → Nibbles ns → length ns ≡ 8 → 0 < x → x < 15 → look ns x t ≡ 0
  pub many : routes t ≡ length rs
  pub proper : Proper t
  pub deep : Deep 9 t
  pub sound : Sound rs
