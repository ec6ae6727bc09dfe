-- WRITER is written for all at once where nothing is late: the lock is got, or given up.
use Rattle.std.proofs.Common.{◌≡◌, ℕ, suc, ◌+◌, ◌≤◌, Bool, cond, List, [], sym, refl, ◌∙◌, subst, inl, arith}
use Rattle.routes.specs.Memory.{Mem, counted}
use Rattle.routes.specs.Routes.{Route}
use Rattle.routes.specs.Counts.Counts.{cnt}
use Rattle.routes.specs.Late.Steps.{set_word}
use Rattle.routes.specs.Late.View.{view}
use Rattle.routes.specs.Tree.Trees.{count}
use Rattle.routes.specs.Invariant.Ghosts.{Ghost, still, limbo}
use Rattle.routes.specs.Invariant.Memories.{RowOk, Sight, Core}
use Rattle.routes.proofs.Basics.Places.{set_val_hit, set_val_miss}
use Rattle.routes.proofs.Late.Only.{only_none}
use Rattle.routes.proofs.Late.View.{view-counted, view-word-masked, view_anyone}
use Rattle.routes.proofs.Repr.Nodes.{repr_stays}
use Rattle.routes.proofs.Invariant.Apart.{solid}
use Rattle.routes.proofs.Invariant.Kinds.{with_row, sight_row}
use Rattle.routes.proofs.Invariant.Rely.{Leaves}

module _ {m : Mem} {h : ℕ} {locked : Bool} {g : Ghost} {rs : List Route} {t : ℕ} (o : Core m h locked g rs t) (none : m.late h ≡ []) (x : ℕ) where
  -- the memory then
  abbrev written : Mem
  written = counted (set_word 0 0 x m)

  -- All other words stay.
  kept : (b w : ℕ) → ((b ≡ 0) × (w ≡ 0) → ⊥) → written.val b w ≡ m.val b w
  kept b w n = set_val_miss 0 0 x m.val b w n

  -- Nobody has late stores.
  nobody_late : (q : ℕ) → m.late q ≡ []
  nobody_late = only_none h m o.others none

  -- All see the same, and it is not seen there.
  pub writer_view : (p : ℕ) → view p written ≡ view h m
  writer_view p = view-counted p (set_word 0 0 x m) ∙ (view-word-masked p 0 0 x m refl ∙ view_anyone p h m (nobody_late p) none)

  -- The lock is p's, or it was.
  pub writer_core : (p : ℕ) (held' : Bool) → x ≡ cond held' (suc p) 0 → Core written p held' (with_row still g) rs t
  unfolding RowOk
  writer_core p held' e = record {
    sizes = record { someone = o.sizes.someone; cpus = o.sizes.cpus; blocks = o.sizes.blocks };
    others = λ q ne. nobody_late q;
    row = nobody_late p;
    writer = set_val_hit 0 0 x m.val ∙ e;
    root = kept 0 1 (λ d. omega (arith, d.1)) ∙ o.root;
    repr = repr_stays m.val written.val g.tree (λ b w i l. kept b w (λ d. solid o b (omega arith) d.0)) o.repr;
    good = o.good;
    blocks = o.blocks;
    inside = o.inside;
    sight = subst (λ v. Sight v (with_row still g) (written.val 0 2) t) (sym (writer_view p))
        (subst (λ a. Sight (view h m) (with_row still g) a t) (sym (kept 0 2 (λ d. omega (arith, d.1)))) (sight_row still o.sight));
  }

  -- No reader sees it.
  pub writer_leaves : (trail : List ℕ) (q : ℕ) → ((b : ℕ) → 1 ≤ cnt b trail → 1 ≤ count b g.tree + limbo g b) → Leaves m g written (with_row still g) trail q
  writer_leaves trail q safe = record {
    epochs = rw (kept 0 2 (λ d. omega (arith, d.1))) (omega arith);
    active = kept 0 (16 + q) (λ d. omega (arith, d.1));
    words = λ b w i l. kept b w (λ d. solid o b (omega (arith, safe b i)) d.0);
    safe = λ b i j. j;
    clear = λ b i j. inl (j, refl);
  }
