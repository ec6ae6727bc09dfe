-- What others may do to a reader, and that its facts stand it.
use Rattle.std.proofs.Common.{◌≡◌, ℕ, ◌+◌, ◌<◌, ◌≤◌, ◌⊎◌, List, refl, ◌∙◌, inl, inr, arith}
use Rattle.routes.specs.declared.lookup.Lookup.TheVariants.{Epoch, Announce, Root, Node, Leave}
use Rattle.routes.specs.declared.work.Work.{Work}
use Rattle.routes.specs.declared.work.Work.TheVariants.{Idle, Lookup as Looking, Update as Updating}
use Rattle.routes.specs.Memory.{Mem}
use Rattle.routes.specs.Routes.{Now}
use Rattle.routes.specs.Counts.Counts.{cnt}
use Rattle.routes.specs.Tree.Trees.{count}
use Rattle.routes.specs.Invariant.Ghosts.{Ghost, limbo}
use Rattle.routes.specs.Invariant.Readers.{LooksUp, Does, Reader}
use Rattle.routes.proofs.Repr.Trails.{follow_stays}

-- what others may do to q: EPOCH is not smaller, its announcement and the slots of its trail stay, and what is newly retired of its trail is stamped not before EPOCH
pub record Leaves (m : Mem) (g : Ghost) (m' : Mem) (g' : Ghost) (trail : List ℕ) (q : ℕ) : Type 0 where
  pub epochs : m.val 0 2 ≤ m'.val 0 2
  pub active : m'.val 0 (16 + q) ≡ m.val 0 (16 + q)
  pub words : (b w : ℕ) → 1 ≤ cnt b trail → w < 16 → m'.val b w ≡ m.val b w
  pub safe : (b : ℕ) → 1 ≤ cnt b trail → 1 ≤ count b g.tree + limbo g b → 1 ≤ count b g'.tree + limbo g' b
  pub clear : (b : ℕ) → 1 ≤ cnt b trail → 1 ≤ limbo g' b → ((1 ≤ limbo g b) × (g'.stamps b ≡ g.stamps b)) ⊎ (m.val 0 2 ≤ g'.stamps b)

-- What a processor does stays if the slots of its trail do.
pub does_stays : (u v : ℕ → ℕ → ℕ) (work : Work) (o trail : List ℕ) (n : Now) → ((b w : ℕ) → 1 ≤ cnt b trail → w < 16 → v b w ≡ u b w) → Does u work o trail n → Does v work o trail n
unfolding Does LooksUp
does_stays u v Idle o trail n same d = d
does_stays u v (Looking (Epoch a)) o trail n same d = d
does_stays u v (Looking (Announce a e)) o trail n same d = d
does_stays u v (Looking (Root a e)) o trail n same d = d
does_stays u v (Looking (Node a e l b best)) o trail n same d = (d.0, d.1, follow_stays u v a l b best trail d.0 same d.2, d.3)
does_stays u v (Looking (Leave e best)) o trail n same d = d
does_stays u v (Updating j s) o trail n same d = d

-- A reader's facts stand what others may do.
pub reader_stays : {m : Mem} {g : Ghost} {m' : Mem} {g' : Ghost} {trail : List ℕ} {q : ℕ} {work : Work} {o : List ℕ} {n : Now} →
    Leaves m g m' g' trail q → Reader m g trail q work o n → Reader m' g' trail q work o n
reader_stays {m = m} {m' = m'} {trail = trail} {work = work} {o = o} {n = n} l r = record {
  active = l.active ∙ r.active;
  old = omega (arith, l.epochs, r.old);
  does = does_stays m.val m'.val work o trail n l.words r.does;
  safe = λ b i. l.safe b i (r.safe b i);
  clear = λ b i j. elim (l.clear b i j) [
    | inl e ↦ omega (arith, r.clear b i e.0, e.1)
    | inr e ↦ omega (arith, r.old, e)
  ];
}

-- Where memory and ghosts are the same, nothing is done to a reader.
pub leaves_same : {m m' : Mem} (g : Ghost) (trail : List ℕ) (q : ℕ) → m'.val ≡ m.val → Leaves m g m' g trail q
leaves_same {m} {m'} g trail q same = record {
  epochs = rw same (omega arith);
  active = rw same;
  words = λ b w i l. rw same;
  safe = λ b i j. j;
  clear = λ b i j. inl (j, refl);
}
