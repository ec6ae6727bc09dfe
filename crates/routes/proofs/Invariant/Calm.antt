-- A late store arrives that no lookup looks at.
use Rattle.std.proofs.Common.{◌≡◌, ℕ, ◌+◌, ◌<◌, ◌≤◌, Bool, true, false, ◌⊎◌, List, ◌∷◌, sym, refl, ap, ◌∙◌, inl, inr, arith}
use Rattle.std.proofs.lemmas.Bool.Decides.{nat_tests as tests}
use Rattle.std.proofs.lemmas.Bool.{false≢true}
use Rattle.routes.specs.Memory.{Mem, Store}
use Rattle.routes.specs.Routes.{Route, State}
use Rattle.routes.specs.Counts.Counts.{cnt}
use Rattle.routes.specs.Late.Rows.{AllRow}
use Rattle.routes.specs.Late.Steps.{landed}
use Rattle.routes.specs.Late.View.{view}
use Rattle.routes.specs.Tree.Trees.{count}
use Rattle.routes.specs.Invariant.Ghosts.{Ghost, Row, still, heads, calm, ripe, limbo}
use Rattle.routes.specs.Invariant.Memories.{HeadStore, CalmStore, RowOk, Core}
use Rattle.routes.specs.Invariant.Inv.{Lock, Cpus, Inv}
use Rattle.routes.proofs.Basics.Places.{set_val_miss}
use Rattle.routes.proofs.Late.Only.{row-landed, only_landed}
use Rattle.routes.proofs.Late.View.{view-landed}
use Rattle.routes.proofs.Repr.Nodes.{repr_stays}
use Rattle.routes.proofs.Invariant.Apart.{solid, once}
use Rattle.routes.proofs.Invariant.Rely.{Leaves, reader_stays}

-- is a row without a new root
unfoldable pub plain : Row → Bool
plain still = true
plain heads = true
plain calm = true
plain (ripe new retired rest table) = false

-- A store to LIMBO_HEAD or LIMBO_TAIL is calm.
pub head_calm : (fresh : List ℕ) (epoch b w x : ℕ) → HeadStore b w x → CalmStore fresh epoch b w x
head_calm fresh epoch b w x k = ((λ z. (omega (arith, k.1), k.2, λ e. absurd (omega (arith, k.1, e)))), (λ ne l. absurd (ne k.0)))

-- The oldest store of such a row is calm, and without it the row is of its kind.
pub row_calm : (r : Row) (m : Mem) (h : ℕ) (g : Ghost) (epoch : ℕ) (x : Store) (xs : List Store) → plain r ≡ true → m.late h ≡ x ∷ xs → RowOk r m h g epoch →
    CalmStore g.fresh epoch x.block x.word x.x × RowOk r (landed h x xs m) h g epoch
unfolding plain RowOk AllRow
row_calm still m h g epoch x xs p e r = let z : ◌≡◌ {A = ℕ} 0 1 = cc (e, r) in absurd (omega arith)
row_calm heads m h g epoch x xs p e r =
    let all : AllRow HeadStore (x ∷ xs) = rw e at r in
    (head_calm g.fresh epoch x.block x.word x.x all.0, rw (row-landed h x xs m) all.1)
row_calm calm m h g epoch x xs p e r =
    let all : AllRow (CalmStore g.fresh epoch) (x ∷ xs) = rw e at r in
    (all.0, rw (row-landed h x xs m) all.1)
row_calm (ripe new retired rest table) m h g epoch x xs p e r = absurd (false≢true p)

module _ {m : Mem} {h : ℕ} {locked : Bool} {g : Ghost} {rs : List Route} {t : ℕ} (o : Core m h locked g rs t) (x : Store) (xs : List Store) (late : m.late h ≡ x ∷ xs)
    (calms : CalmStore g.fresh (view h m 0 2) x.block x.word x.x) where
  -- Words below 31 of blocks that are not fresh stay.
  node_kept : (b w : ℕ) → 1 ≤ count b g.tree + limbo g b → w < 31 → (landed h x xs m).val b w ≡ m.val b w
  node_kept b w u l = set_val_miss x.block x.word x.x m.val b w (λ e.
      let f : 1 ≤ cnt x.block g.fresh = calms.1 (λ z. solid o b (omega arith) (e.0 ∙ z)) (omega (arith, e.1)) in
      omega (arith, once o b, ap (λ z. cnt z g.fresh) e.0))

  -- So do words of the header but for EPOCH, LIMBO_HEAD and LIMBO_TAIL.
  header_kept : (w : ℕ) → (w < 2) ⊎ (4 < w) → (landed h x xs m).val 0 w ≡ m.val 0 w
  header_kept w l = set_val_miss x.block x.word x.x m.val 0 w (λ e.
      let f = calms.0 (sym e.0) in elim l [ inl a ↦ omega (arith, e.1, f.0) | inr a ↦ omega (arith, e.1, f.1) ])

  -- EPOCH does not fall, and does not get past what the holder sees.
  pub calm_epoch : (m.val 0 2 ≤ (landed h x xs m).val 0 2) × ((landed h x xs m).val 0 2 ≤ view h m 0 2)
  calm_epoch = let a = o.sight.ahead in let f = calms.0 in grind (arith, tests)

  -- What holds of the memory still does.
  pub calm_core : RowOk g.row (landed h x xs m) h g (view h m 0 2) → Core (landed h x xs m) h locked g rs t
  calm_core r = record {
    sizes = record { someone = o.sizes.someone; cpus = o.sizes.cpus; blocks = o.sizes.blocks };
    others = only_landed h x xs m o.others;
    row = rw (view-landed h x xs m late) r;
    writer = header_kept 0 (inl (omega arith)) ∙ o.writer;
    root = header_kept 1 (inl (omega arith)) ∙ o.root;
    repr = repr_stays m.val (landed h x xs m).val g.tree (λ b w u l. node_kept b w (omega arith) l) o.repr;
    good = o.good;
    blocks = o.blocks;
    inside = o.inside;
    sight = rw (view-landed h x xs m late) (record
        { ahead = calm_epoch.1; early = o.sight.early; linked = o.sight.linked; ending = o.sight.ending; stamped = o.sight.stamped; newest = o.sight.newest });
  }

  -- No reader is disturbed.
  pub calm_leaves : (trail : List ℕ) (q : ℕ) → ((b : ℕ) → 1 ≤ cnt b trail → 1 ≤ count b g.tree + limbo g b) → Leaves m g (landed h x xs m) g trail q
  calm_leaves trail q safe = record {
    epochs = calm_epoch.0;
    active = header_kept (16 + q) (inr (omega arith));
    words = λ b w i l. node_kept b w (safe b i) (omega arith);
    safe = λ b i j. j;
    clear = λ b i j. inl (j, refl);
  }

-- A calm store arrives, and the invariant stays.
pub calm_inv : {m : Mem} {k : Lock} {g : Ghost} {trail : ℕ → List ℕ} {s : State} {t : ℕ} {c : Cpus} (x : Store) (xs : List Store) →
    Inv m k g trail s t c → plain g.row ≡ true → m.late k.who ≡ x ∷ xs → Inv (landed k.who x xs m) k g trail s t c
calm_inv {m} {k} {g} {trail} {s} {t} {c} x xs i p late = record {
  core = calm_core i.core x xs late row.0 row.1;
  readers = λ q. reader_stays (calm_leaves i.core x xs late row.0 (trail q) q (i.readers q).safe) (i.readers q);
  leads = i.leads;
  holding = i.holding;
  outside = i.outside;
  room = i.room;
  writer = rw (view-landed k.who x xs m late) i.writer;
  scanned = i.scanned;
}
  where
    row : CalmStore g.fresh (view k.who m 0 2) x.block x.word x.x × RowOk g.row (landed k.who x xs m) k.who g (view k.who m 0 2)
    row = row_calm g.row m k.who g (view k.who m 0 2) x xs p late i.core.row
