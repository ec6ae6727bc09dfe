-- A store of the lock's holder: what has to be shown of it.
use Rattle.std.proofs.Common.{◌≡◌, ℕ, ◌<◌, ◌≤◌, Bool, true, false, T, List, ◌∷◌, length, sym, refl, ap, ◌∙◌, subst, inl, arith}
use Rattle.routes.specs.declared.update.job.Job.{Job}
use Rattle.routes.specs.declared.update.Phase.{Phase}
use Rattle.routes.specs.declared.work.Work.TheVariants.{Update as Updating}
use Rattle.routes.specs.Memory.{Mem, set_val, stored, counted}
use Rattle.routes.specs.Routes.{Route, Event, Turned, State, Run, young}
use Rattle.routes.specs.Counts.Counts.{cnt}
use Rattle.routes.specs.Late.View.{masked, view}
use Rattle.routes.specs.Repr.Repr.{Repr}
use Rattle.routes.specs.Tree.Trees.{block_of, count}
use Rattle.routes.specs.Tree.Walks.{Good}
use Rattle.routes.specs.Invariant.Ghosts.{Ghost, limbo}
use Rattle.routes.specs.Invariant.Memories.{RowOk, Sight, Core}
use Rattle.routes.specs.Invariant.Registers.{holds_in, passed_in}
use Rattle.routes.specs.Invariant.Writers.{PhaseFacts, hall_of}
use Rattle.routes.specs.Invariant.Inv.{Cpus, Inv, set_cpu}
use Rattle.routes.proofs.Late.Only.{only_stored}
use Rattle.routes.proofs.Late.View.{view-counted, view-stored}
use Rattle.routes.proofs.Invariant.Alike.{Alike}
use Rattle.routes.proofs.Invariant.Rely.{Leaves}
use Rattle.routes.proofs.Invariant.Steps.{lock_of, Turn}
use Rattle.routes.proofs.Invariant.Holding.{hold_turn}

-- p stores x to word w of block b: the word is open, tree, stamps and counts are the same, and row and sight are those of the new ghosts
pub record StoreOk (m : Mem) (p : ℕ) (g : Ghost) (t b w x : ℕ) (g' : Ghost) : Type 0 where
  pub open' : masked b w ≡ false
  pub tree : g'.tree ≡ g.tree
  pub stamps : g'.stamps ≡ g.stamps
  -- what is in limbo and what is fresh stays so
  pub limbos : (a : ℕ) → limbo g' a ≡ limbo g a
  pub freshs : (a : ℕ) → cnt a g'.fresh ≡ cnt a g.fresh
  pub row : RowOk g'.row (counted (stored p b w x m)) p g' (set_val b w x (view p m) 0 2)
  pub sight : Sight (set_val b w x (view p m)) g' (m.val 0 2) t

-- The holder sees its store at once.
pub view_store : (p b w x : ℕ) (m : Mem) → masked b w ≡ false → view p (counted (stored p b w x m)) ≡ set_val b w x (view p m)
view_store p b w x m e = view-counted p (stored p b w x m) ∙ view-stored p b w x m e

-- What holds of the memory holds after the store.
pub core_stored : {m : Mem} {p : ℕ} {locked : Bool} {g : Ghost} {rs : List Route} {t t' b w x : ℕ} {g' : Ghost} → Core m p locked g rs t → StoreOk m p g t' b w x g' → Core (counted (stored p b w x m)) p locked g' rs t'
core_stored {m} {p} {locked} {g} {rs} {t} {t'} {b} {w} {x} {g'} o k = record {
  sizes = record { someone = o.sizes.someone; cpus = o.sizes.cpus; blocks = o.sizes.blocks };
  others = only_stored p b w x m o.others;
  row = subst (λ v. RowOk g'.row (counted (stored p b w x m)) p g' (v 0 2)) (sym seen) k.row;
  writer = o.writer;
  root = o.root ∙ ap block_of (sym k.tree);
  repr = subst (λ z. Repr m.val z) (sym k.tree) o.repr;
  good = subst (λ z. Good z rs) (sym k.tree) o.good;
  blocks = λ a. omega (arith, o.blocks a, k.limbos a, k.freshs a, ap (count a) k.tree);
  inside = o.inside;
  sight = subst (λ v. Sight v g' (m.val 0 2) t') (sym seen) k.sight;
}
  where
    seen : view p (counted (stored p b w x m)) ≡ set_val b w x (view p m)
    seen = view_store p b w x m k.open'

-- No reader sees it.
pub leaves_stored : {m : Mem} {p : ℕ} {g : Ghost} {t b w x : ℕ} {g' : Ghost} (trail : List ℕ) (q : ℕ) → StoreOk m p g t b w x g' → Leaves m g (counted (stored p b w x m)) g' trail q
leaves_stored trail q k = record {
  epochs = omega arith;
  active = refl;
  words = λ a v i l. refl;
  safe = λ a i j. omega (arith, k.limbos a, ap (count a) k.tree);
  clear = λ a i j. inl (omega (arith, k.limbos a), ap (λ f. f a) k.stamps);
}

-- The turn of a store: the facts of the next phase are those of the view with the word set.
pub store_turn : {m : Mem} {g : Ghost} {trail : ℕ → List ℕ} {s : State} {t : ℕ} {c : Cpus} {p cpus blocks : ℕ} {es : List Event} {s' : State} {b w x : ℕ} {g' : Ghost} {t' : ℕ} (j : Job) (ph : Phase) (own : List ℕ) →
    Inv m (lock_of p true) g trail s t c → Alike p s s' → Run cpus blocks es s' → T (young (s'.now' p)) → StoreOk m p g t' b w x g' →
    holds_in ph ≡ true → length own ≡ 4096 → PhaseFacts (set_val b w x (view p m)) (hall_of m) g' own s.table (s'.now' p) j ph →
    ((q a : ℕ) → q < (passed_in m.cpus ph).many → 1 ≤ cnt a (trail q) → 1 ≤ limbo g a → (passed_in m.cpus ph).limit ≤ g.stamps a) →
    Turn (counted (stored p b w x m)) t' (set_cpu p (Updating j ph) own c) cpus blocks (Turned p ∷ es) p s
store_turn {m} {g} {trail} {s} {t} {c} {p} {s' = s'} {b = b} {w = w} {x = x} {g' = g'} {t' = t'} j ph own i a r y k h l f z = hold_turn i a r y (record {
  core = subst (λ rs. Core (counted (stored p b w x m)) p true g' rs t') (sym a.table) (core_stored i.core k);
  leaves = λ q. leaves_stored (trail q) q k;
  cpus = refl;
  holds' = h;
  room = l;
  facts = subst (λ v. PhaseFacts v (hall_of m) g' own s'.table (s'.now' p) j ph) (sym (view_store p b w x m k.open'))
      (subst (λ rs. PhaseFacts (set_val b w x (view p m)) (hall_of m) g' own rs (s'.now' p) j ph) (sym a.table) f);
  scanned = λ q d u e n. omega (arith, z q d u e (omega (arith, k.limbos d)), ap (λ f. f d) k.stamps);
})
