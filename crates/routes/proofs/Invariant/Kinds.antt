-- The kind of late row is changed, and nothing else.
use Rattle.std.proofs.Common.{◌≡◌, ℕ, Bool, List, [], refl, subst, inl, arith}
use Rattle.routes.specs.Memory.{Mem}
use Rattle.routes.specs.Routes.{Route}
use Rattle.routes.specs.Late.Rows.{AllRow}
use Rattle.routes.specs.Late.View.{view}
use Rattle.routes.specs.Invariant.Ghosts.{Ghost, Row, still, heads}
use Rattle.routes.specs.Invariant.Memories.{RowOk, Sight, Core}
use Rattle.routes.proofs.Invariant.Rely.{Leaves}

-- ghosts with another kind of late row
abbrev pub with_row : Row → Ghost → Ghost
with_row kind g = record { tree = g.tree; chain = g.chain; loose = g.loose; fresh = g.fresh; stamps = g.stamps; torn = g.torn; row = kind }

-- What is seen does not ask for the kind.
pub sight_row : {v : ℕ → ℕ → ℕ} {g : Ghost} {arrived t : ℕ} (kind : Row) → Sight v g arrived t → Sight v (with_row kind g) arrived t
sight_row kind o = record { ahead = o.ahead; early = o.early; linked = o.linked; ending = o.ending; stamped = o.stamped; newest = o.newest }

-- Another kind may be said where the row is of it.
pub core_row : {m : Mem} {h : ℕ} {locked : Bool} {g : Ghost} {rs : List Route} {t : ℕ} (kind : Row) → RowOk kind m h (with_row kind g) (view h m 0 2) → Core m h locked g rs t → Core m h locked (with_row kind g) rs t
core_row kind r o = record
    { sizes = o.sizes; others = o.others; row = r; writer = o.writer; root = o.root; repr = o.repr; good = o.good; blocks = o.blocks; inside = o.inside; sight = sight_row kind o.sight }

-- An empty row is one of stores to LIMBO_HEAD and LIMBO_TAIL.
pub heads_none : (m : Mem) (h : ℕ) (g : Ghost) (epoch : ℕ) → m.late h ≡ [] → RowOk heads m h g epoch
unfolding RowOk AllRow
heads_none m h g epoch e = rw e tt

-- The row of a kind that is known.
pub row_is : (kind : Row) (m : Mem) (h : ℕ) (g : Ghost) (epoch : ℕ) → g.row ≡ kind → RowOk g.row m h g epoch → RowOk kind m h g epoch
row_is kind m h g epoch e r = subst (λ z. RowOk z m h g epoch) e r

-- Where nothing is late, no row is.
pub still_none : (m : Mem) (h : ℕ) (g : Ghost) (epoch : ℕ) → g.row ≡ still → RowOk g.row m h g epoch → m.late h ≡ []
unfolding RowOk
still_none m h g epoch e r = row_is still m h g epoch e r

-- No reader asks for the kind.
pub leaves_row : {m m' : Mem} (g : Ghost) (kind : Row) (trail : List ℕ) (q : ℕ) → m'.val ≡ m.val → Leaves m g m' (with_row kind g) trail q
leaves_row g kind trail q same = record { epochs = rw same (omega arith); active = rw same; words = λ b w i l. rw same; safe = λ b i j. j; clear = λ b i j. inl (j, refl) }
