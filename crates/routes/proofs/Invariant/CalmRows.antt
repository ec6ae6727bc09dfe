-- Late rows of the holder: what a calm one hides, and how rows grow.
use Rattle.std.proofs.Common.{◌≡◌, ℕ, ◌≤◌, Bool, false, List, [], sym, refl, ◌∙◌, subst, arith}
use Rattle.routes.specs.Memory.{Mem, set_val, stored, counted}
use Rattle.routes.specs.Routes.{Route}
use Rattle.routes.specs.Late.View.{masked, view}
use Rattle.routes.specs.Repr.Repr.{Repr}
use Rattle.routes.specs.Tree.Trees.{Tree, block_of, count}
use Rattle.routes.specs.Invariant.Ghosts.{Ghost, Row, calm}
use Rattle.routes.specs.Invariant.Memories.{CalmStore, RowOk, Core}
use Rattle.routes.proofs.Late.Only.{row-stored}
use Rattle.routes.proofs.Late.Rows.{all_end}
use Rattle.routes.proofs.Late.Sees.{sees_untouched}
use Rattle.routes.proofs.Late.View.{view_open, view_none, open_low, open_block}
use Rattle.routes.proofs.Repr.Nodes.{repr_stays}
use Rattle.routes.proofs.Invariant.Apart.{solid as real, once as used-once}

-- A row is what its kind says.
pub row_of : (r : Row) (m : Mem) (h : ℕ) (g : Ghost) (e : ℕ) → g.row ≡ r → RowOk g.row m h g e → RowOk r m h g e
row_of r m h g e d k = subst (λ z. RowOk z m h g e) d k

-- And so the other way round.
pub row_to : (r : Row) (m : Mem) (h : ℕ) (g : Ghost) (e : ℕ) → g.row ≡ r → RowOk r m h g e → RowOk g.row m h g e
row_to r m h g e d k = subst (λ z. RowOk z m h g e) (sym d) k

-- A calm row grows by a calm store that leaves EPOCH.
pub calm_more : (m : Mem) (h : ℕ) (g g' : Ghost) (b w x : ℕ) → RowOk calm m h g (view h m 0 2) → g'.row ≡ calm → g'.fresh ≡ g.fresh → set_val b w x (view h m) 0 2 ≡ view h m 0 2 → CalmStore g.fresh (view h m 0 2) b w x →
    RowOk g'.row (counted (stored h b w x m)) h g' (set_val b w x (view h m) 0 2)
unfolding RowOk
calm_more m h g g' b w x all r f e k = row_to calm (counted (stored h b w x m)) h g' (set_val b w x (view h m) 0 2) r
    (rw (e, f, row-stored h b w x m) (all_end (CalmStore g.fresh (view h m 0 2)) (m.late h) b w x all k))

module _ (m : Mem) (h : ℕ) (locked : Bool) (g : Ghost) (rs : List Route) (t : ℕ) (c : Core m h locked g rs t) where
  -- Where nothing is late the holder sees what is there.
  pub still_view : m.late h ≡ [] → (b w : ℕ) → masked b w ≡ false → view h m b w ≡ m.val b w
  still_view e b w shows = view_none h m b w e shows

  -- In a calm row no store is to ROOT.
  pub calm_root : g.row ≡ calm → view h m 0 1 ≡ block_of g.tree
  unfolding RowOk
  calm_root e =
      view_open h m 0 1 (open_low 1 (omega arith) (omega arith))
      ∙ sees_untouched (CalmStore g.fresh (view h m 0 2)) h 0 1 m (λ x k. (let z = (k.0 refl).0 in omega arith)) (row_of calm m h g (view h m 0 2) e c.row)
      ∙ c.root

  -- Nor to the published tree.
  pub calm_repr : g.row ≡ calm → Repr (view h m) g.tree
  unfolding RowOk
  calm_repr e = repr_stays m.val (view h m) g.tree (λ b i u l.
      (let ne : b ≡ 0 → ⊥ = real c b (omega arith) in
      view_open h m b i (open_block b i ne)
      ∙ sees_untouched (CalmStore g.fresh (view h m 0 2)) h b i m (λ x k. (let z = k.1 ne l in let o = used-once c b in omega arith)) (row_of calm m h g (view h m 0 2) e c.row)))
      c.repr

  -- Where nothing is late a tree that the holder sees is there.
  pub still_repr : m.late h ≡ [] → (W : Tree) → ((b : ℕ) → 1 ≤ count b W → b ≡ 0 → ⊥) → Repr (view h m) W → Repr m.val W
  still_repr e W ne r = repr_stays (view h m) m.val W (λ b i u l. sym (still_view e b i (open_block b i (ne b u)))) r
