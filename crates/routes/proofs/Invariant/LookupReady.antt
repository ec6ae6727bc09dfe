-- A lookup may take its turn: its registers are in their ranges, and it asks for what it may.
use Rattle.std.proofs.Common.{◌≡◌, ℕ, suc, ◌+◌, ◌^◌, ◌<◌, ◌≤◌, List, refl, subst, arith}
use Rattle.std.proofs.lemmas.Bool.{eq-eqb}
use Rattle.words.specs.Address.{nib}
use Rattle.words.proofs.Addresses.{nib_small}
use Rattle.routes.specs.declared.Answer.{Answer}
use Rattle.routes.specs.declared.lookup.Lookup.{Lookup}
use Rattle.routes.specs.declared.lookup.Lookup.TheVariants.{Epoch, Announce, Root, Node, Leave}
use Rattle.routes.specs.declared.work.Work.TheVariants.{Lookup as Looking}
use Rattle.routes.specs.Memory.{Mem}
use Rattle.routes.specs.Routes.{State}
use Rattle.routes.specs.Counts.Counts.{cnt}
use Rattle.routes.specs.Machine.Acts.{MayDo}
use Rattle.routes.specs.Machine.Lookups.{LookupOk, lookup_act}
use Rattle.routes.specs.Invariant.Ghosts.{Ghost}
use Rattle.routes.specs.Invariant.Readers.{LooksUp, Does, Reader}
use Rattle.routes.specs.Invariant.Registers.{loaded, loaded_in}
use Rattle.routes.specs.Invariant.Inv.{Lock, Cpus, Inv}
use Rattle.routes.proofs.Repr.Trails.{follow_node}
use Rattle.routes.proofs.Invariant.Touching.{MayAsk, used_touch, header_touch}

module _ {m : Mem} {k : Lock} {g : Ghost} {trail : ℕ → List ℕ} {s : State} {t : ℕ} {c : Cpus} (p : ℕ) (i : Inv m k g trail s t c) where
  -- What is known of p.
  reads : (l : Lookup) → c.work p ≡ Looking l → Reader m g (trail p) p (Looking l) (c.own p) (s.now' p)
  reads l e = subst (λ w. Reader m g (trail p) p w (c.own p) (s.now' p)) e (i.readers p)

  -- An epoch that was loaded is not past the turns taken.
  epoch_early : (l : Lookup) → c.work p ≡ Looking l → loaded_in l ≤ suc t
  unfolding loaded
  epoch_early l e = omega (arith, (reads l e).old, i.core.sight.ahead, i.core.sight.early)

  -- The node at which it is, is the first of its trail.
  node_there : (a x d b : ℕ) (best : Answer) → c.work p ≡ Looking (Node a x d b best) → (d < 9) × (1 ≤ cnt b (trail p))
  unfolding Does LooksUp cnt
  node_there a x d b best e =
      let l = reads (Node a x d b best) e in
      let f = follow_node m.val a d b best (trail p) l.does.0 l.does.3 l.does.2 in
      (f.2, rw (f.1, eq-eqb b b refl) (omega arith))

  -- Its ranges.
  pub lookup_ok : (l : Lookup) → c.work p ≡ Looking l → suc t < 2 ^ 64 → LookupOk l
  unfolding loaded_in
  lookup_ok (Epoch a) e late = tt
  lookup_ok (Announce a x) e late = omega (arith, epoch_early (Announce a x) e)
  lookup_ok (Root a x) e late = omega (arith, epoch_early (Root a x) e)
  lookup_ok (Node a x d b best) e late = (omega (arith, epoch_early (Node a x d b best) e), omega (arith, (node_there a x d b best e).0))
  lookup_ok (Leave x best) e late = omega (arith, epoch_early (Leave x best) e)

  -- What it asks for.
  pub lookup_may : (l : Lookup) → c.work p ≡ Looking l → MayAsk m p → MayDo m p (lookup_act p l)
  lookup_may (Epoch a) e its = header_touch i.core its 2 (omega arith)
  lookup_may (Announce a x) e its = header_touch i.core its (16 + p) (omega (arith, its.inside, i.core.sizes.cpus))
  lookup_may (Root a x) e its = header_touch i.core its 1 (omega arith)
  lookup_may (Node a x d b best) e its =
      let u = (i.readers p).safe b (node_there a x d b best e).1 in
      used_touch i.core its b (nib d a) (omega arith) (omega (arith, nib_small d a))
  lookup_may (Leave x best) e its = header_touch i.core its (16 + p) (omega (arith, its.inside, i.core.sizes.cpus))
