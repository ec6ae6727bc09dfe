-- What is known of memory after a step of one whose late stores go to LIMBO_HEAD and LIMBO_TAIL only: such a store, a block given back, a block got.
use Rattle.std.proofs.Common.{◌≡◌, ℕ, ◌+◌, ◌<◌, ◌≤◌, Bool, true, false, eqb, List, sym, refl, ap, ◌∙◌, subst, inl, inr, arith}
use Rattle.std.proofs.lemmas.Bool.Decides.{nat_tests, eqb_tells}
use Rattle.std.proofs.lemmas.Bool.{cases_Bool}
use Rattle.routes.specs.Memory.{Mem, set_val, counted, stored, released}
use Rattle.routes.specs.Routes.{Route}
use Rattle.routes.specs.Counts.Counts.{bit, cnt}
use Rattle.routes.specs.Late.Steps.{obtained}
use Rattle.routes.specs.Late.View.{view}
use Rattle.routes.specs.Tree.Trees.{count}
use Rattle.routes.specs.Invariant.Ghosts.{Ghost, Row, heads, calm, limbo}
use Rattle.routes.specs.Invariant.Memories.{RowOk, Sight, Core}
use Rattle.routes.proofs.Late.Only.{only_stored}
use Rattle.routes.proofs.Late.View.{open_low, view-counted, view-stored, view-obtained}
use Rattle.routes.proofs.Repr.Nodes.{repr_stays}
use Rattle.routes.proofs.Invariant.Rely.{Leaves}
use Rattle.routes.proofs.Invariant.Apart.{uses, free_unused, header_held}
use Rattle.routes.proofs.Invariant.Chains.{chain_stays}
use Rattle.routes.proofs.Invariant.HeadRows.{HeadsRow, heads_row, heads_calm, heads_stored}

-- the same tree and the same stamps, with other lists
abbrev pub regroup : Ghost → List ℕ → List ℕ → List ℕ → Bool → Row → Ghost
regroup g chain loose fresh torn row = record { tree = g.tree; chain = chain; loose = loose; fresh = fresh; stamps = g.stamps; torn = torn; row = row }

-- the same, and late stores of more kinds are allowed
abbrev pub calmed : Ghost → Ghost
calmed g = regroup g g.chain g.loose g.fresh g.torn calm

module _ {m : Mem} {h : ℕ} {l : Bool} {g : Ghost} {rs : List Route} {t : ℕ} (o : Core m h l g rs t) where
  -- Late stores to LIMBO_HEAD and LIMBO_TAIL are calm.
  pub core_calm : g.row ≡ heads → Core m h l (calmed g) rs t
  core_calm e = record {
    sizes = o.sizes;
    others = o.others;
    row = heads_calm m h (calmed g) _ refl (heads_row m h l g rs t o e);
    writer = o.writer;
    root = o.root;
    repr = o.repr;
    good = o.good;
    blocks = o.blocks;
    inside = o.inside;
    sight = (let s = o.sight in record { ahead = s.ahead; early = s.early; linked = s.linked; ending = s.ending; stamped = s.stamped; newest = s.newest });
  }

module _ {m : Mem} {h : ℕ} {l : Bool} {g : Ghost} {rs : List Route} {t : ℕ} (o : Core m h l g rs t) (r : HeadsRow h m) where
  -- A store to LIMBO_HEAD or LIMBO_TAIL, by which blocks may change from one list to another.
  pub core_set : (w x : ℕ) (chain loose fresh : List ℕ) (torn : Bool) → 3 ≤ w → w ≤ 4 → ((b : ℕ) → cnt b chain + cnt b loose + cnt b fresh ≡ cnt b g.chain + cnt b g.loose + cnt b g.fresh) →
      Sight (set_val 0 w x (view h m)) (regroup g chain loose fresh torn heads) (m.val 0 2) t → Core (counted (stored h 0 w x m)) h l (regroup g chain loose fresh torn heads) rs t
  unfolding RowOk
  core_set w x chain loose fresh torn low high same s = record {
    sizes = record { someone = o.sizes.someone; cpus = o.sizes.cpus; blocks = o.sizes.blocks };
    others = only_stored h 0 w x m o.others;
    row = heads_stored m h w x low high r;
    writer = o.writer;
    root = o.root;
    repr = o.repr;
    good = o.good;
    blocks = λ b. omega (arith, o.blocks b, same b);
    inside = o.inside;
    sight = subst (λ v. Sight v (regroup g chain loose fresh torn heads) (m.val 0 2) t) (sym (view-counted h (stored h 0 w x m) ∙ view-stored h 0 w x m (open_low w (omega arith) (omega arith)))) s;
  }

  -- A loose or fresh block is given back.
  pub core_release : (b : ℕ) (loose fresh : List ℕ) → ((c : ℕ) → cnt c g.loose + cnt c g.fresh ≡ cnt c loose + cnt c fresh + bit (eqb c b)) → ((c : ℕ) → cnt c loose ≤ cnt c g.loose) →
      Core (counted (released b m)) h l (regroup g g.chain loose fresh g.torn heads) rs t
  unfolding RowOk view
  core_release b loose fresh same fewer = record {
    sizes = record { someone = o.sizes.someone; cpus = o.sizes.cpus; blocks = o.sizes.blocks };
    others = o.others;
    row = r;
    writer = o.writer;
    root = o.root;
    repr = o.repr;
    good = o.good;
    blocks = λ c. (let e = o.blocks c in let d = same c in elim (eqb_tells c b) [
      | inl i ↦ elim (cases_Bool (m.held c)) [ inl k ↦ grind (arith, nat_tests) | inr k ↦ grind (arith, nat_tests) ]
      | inr i ↦ grind (arith, nat_tests)
    ]);
    inside = λ c k. o.inside c (grind (arith, nat_tests));
    sight = (let s = o.sight in record { ahead = s.ahead; early = s.early; linked = s.linked; ending = s.ending; stamped = s.stamped; newest = λ c k. s.newest c (omega (arith, fewer c)) });
  }

  module _ (b : ℕ) (f : ℕ → ℕ → ℕ) (inside : b < m.blocks) (free : m.held b ≡ false) (same : (c w : ℕ) → (c ≡ b → ⊥) → f c w ≡ m.val c w) where
    -- What is in use is another block.
    other : (c : ℕ) → 1 ≤ uses g c → c ≡ b → ⊥
    other c n e = let z = free_unused o b free in let q : uses g c ≡ uses g b = ap (uses g) e in omega arith

    -- So is the header.
    header : ◌≡◌ {A = ℕ} 0 b → ⊥
    header e = let z : true ≡ false = sym (header_held o) ∙ (ap m.held e ∙ free) in grind (arith, nat_tests)

    -- Other blocks are seen as before.
    after : (c w : ℕ) → (c ≡ b → ⊥) → view h (counted (obtained b f m)) c w ≡ view h m c w
    unfolding view
    after c w n = view-obtained h b f m same c w n

    -- A block is got, with anything in it.
    pub core_obtain : (fresh : List ℕ) → ((c : ℕ) → cnt c fresh ≡ cnt c g.fresh + bit (eqb c b)) → Core (counted (obtained b f m)) h l (regroup g g.chain g.loose fresh g.torn heads) rs t
    unfolding RowOk
    core_obtain fresh more = record {
      sizes = record { someone = o.sizes.someone; cpus = o.sizes.cpus; blocks = o.sizes.blocks };
      others = o.others;
      row = r;
      writer = same 0 0 header ∙ o.writer;
      root = same 0 1 header ∙ o.root;
      repr = repr_stays m.val f g.tree (λ c w n k. same c w (other c (omega arith))) o.repr;
      good = o.good;
      blocks = λ c. (let e = o.blocks c in let d = more c in elim (eqb_tells c b) [
        | inl i ↦ (let k : m.held c ≡ false = ap m.held i.1 ∙ free in grind (arith, nat_tests))
        | inr i ↦ grind (arith, nat_tests)
      ]);
      inside = λ c k. elim (eqb_tells c b) [ inl i ↦ omega (arith, i.1) | inr i ↦ o.inside c (rw i.0 at k) ];
      sight = (let s = o.sight in record {
        ahead = rw (same 0 2 header, after 0 2 header) s.ahead;
        early = rw (after 0 2 header) s.early;
        linked = rw (after 0 3 header) (chain_stays (view h m) (view h (counted (obtained b f m))) _ g.chain (λ c n. after c 32 (other c (omega arith))) s.linked);
        ending = λ w. after 0 4 header ∙ s.ending w;
        stamped = λ c n. (after c 31 (other c (omega arith)) ∙ (s.stamped c n).0, rw (after 0 2 header) (s.stamped c n).1);
        newest = λ c n. rw (after 0 2 header) (s.newest c n);
      });
    }

    -- No lookup sees it, since its trail is in use.
    pub leaves_obtain : (fresh : List ℕ) (row : Row) (trail : List ℕ) (q : ℕ) → ((c : ℕ) → 1 ≤ cnt c trail → 1 ≤ count c g.tree + limbo g c) →
        Leaves m g (counted (obtained b f m)) (regroup g g.chain g.loose fresh g.torn row) trail q
    leaves_obtain fresh row trail q safe = record {
      epochs = rw (same 0 2 header) (omega arith);
      active = same 0 (16 + q) header;
      words = λ c w n k. same c w (other c (omega (arith, safe c n)));
      safe = λ c n k. k;
      clear = λ c n k. inl (k, refl);
    }

-- Where words stay, and so does what is retired of a trail, nothing is done to its reader.
pub leaves_regroup : (m m' : Mem) (g : Ghost) (chain loose fresh : List ℕ) (torn : Bool) (row : Row) (trail : List ℕ) (q : ℕ) → m'.val ≡ m.val → ((b : ℕ) → 1 ≤ cnt b trail → cnt b chain + cnt b loose ≡ limbo g b) →
    Leaves m g m' (regroup g chain loose fresh torn row) trail q
leaves_regroup m m' g chain loose fresh torn row trail q words same = record {
  epochs = rw words (omega arith);
  active = rw words;
  words = λ b w i l. rw words;
  safe = λ b i k. omega (arith, same b i);
  clear = λ b i k. inl (omega (arith, same b i), refl);
}
