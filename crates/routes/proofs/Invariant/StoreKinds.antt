-- The stores of an update that builds, publishes and retires: each is one that the holder may make.
use Rattle.std.proofs.Common.{◌≡◌, ℕ, suc, ◌+◌, ◌<◌, ◌≤◌, Bool, List, [], ◌∷◌, ◌++◌, sym, refl, ap, ◌∙◌, subst, arith}
use Rattle.own.specs.Layout.{words_of}
use Rattle.routes.specs.declared.update.job.Job.{Job}
use Rattle.routes.specs.Memory.{Mem, stored}
use Rattle.routes.specs.Routes.{Route, Now}
use Rattle.routes.specs.Build.Stages.{Built}
use Rattle.routes.specs.Counts.Counts.{cnt}
use Rattle.routes.specs.Late.Rows.{AllRow, store_of}
use Rattle.routes.specs.Late.View.{view}
use Rattle.routes.specs.Tree.Trees.{count}
use Rattle.routes.specs.Invariant.Building.{Published}
use Rattle.routes.specs.Invariant.Ghosts.{Ghost, still, calm, ripe}
use Rattle.routes.specs.Invariant.Holders.{got_blocks, replaced_blocks, rest_blocks}
use Rattle.routes.specs.Invariant.Memories.{Chain, last_from, CalmStore, RowOk, Sight, Core}
use Rattle.routes.proofs.Counts.Lists.{cnt-++}
use Rattle.routes.proofs.Late.Only.{row-stored}
use Rattle.routes.proofs.Late.View.{open_block}
use Rattle.routes.proofs.Invariant.CalmRows.{row_of, calm_more, still_repr}
use Rattle.routes.proofs.Invariant.Sights.{rowed, joined, mended, header_stays, sight_apart, sight_root, sight_epoch, sight_tail, sight_head, sight_link}
use Rattle.routes.proofs.Invariant.Storing.{StoreOk}
use Rattle.routes.proofs.Invariant.Apart.{solid as real, once as used-once}

-- What is seen now may be said for a later turn.
sight_later : (v : ℕ → ℕ → ℕ) (g : Ghost) (e t : ℕ) → Sight v g e t → Sight v g e (suc t)
sight_later v g e t s = record { ahead = s.ahead; early = omega (arith, s.early); linked = s.linked; ending = s.ending; stamped = s.stamped; newest = s.newest }

module _ (m : Mem) (h : ℕ) (locked : Bool) (g : Ghost) (rs : List Route) (t : ℕ) (c : Core m h locked g rs t) where
  -- The header is not retired.
  solid : (b : ℕ) → 1 ≤ cnt b g.chain → b ≡ 0 → ⊥
  solid b l = real c b (omega arith)

  -- To a fresh block.
  pub fresh_store : (b w x : ℕ) → g.row ≡ calm → 1 ≤ cnt b g.fresh → StoreOk m h g t b w x g
  fresh_store b w x r f =
      let ne : b ≡ 0 → ⊥ = real c b (omega arith) in let one = used-once c b in
      record {
        open' = open_block b w ne;
        tree = refl;
        stamps = refl;
        limbos = λ a. refl;
        freshs = λ a. refl;
        row = calm_more m h g g b w x (row_of calm m h g (view h m 0 2) r c.row) r refl (header_stays b w x (view h m) 2 ne) ((λ z. absurd (ne z)), (λ z l. f));
        sight = sight_apart (view h m) g (m.val 0 2) t c.sight b w x ne (omega arith);
      }

  -- To RETIRED_AT or NEXT_RETIRED of a block that is loose.
  pub loose_store : (b w x : ℕ) → g.row ≡ calm → 1 ≤ cnt b g.loose → 31 ≤ w → StoreOk m h g t b w x g
  loose_store b w x r f hw =
      let ne : b ≡ 0 → ⊥ = real c b (omega arith) in let one = used-once c b in
      record {
        open' = open_block b w ne;
        tree = refl;
        stamps = refl;
        limbos = λ a. refl;
        freshs = λ a. refl;
        row = calm_more m h g g b w x (row_of calm m h g (view h m 0 2) r c.row) r refl (header_stays b w x (view h m) 2 ne) ((λ z. absurd (ne z)), (λ z l. absurd (omega arith)));
        sight = sight_apart (view h m) g (m.val 0 2) t c.sight b w x ne (omega arith);
      }

  -- To ROOT, once the new tree stands and nothing is late: it is ripe.
  pub root_store : (o : List ℕ) (n : Now) (j : Job) (f : Published (view h m) g o rs n j still) → StoreOk m h g t 0 1 j.root (rowed (ripe f.W (replaced_blocks o j) (rest_blocks o j) f.qs) g)
  unfolding RowOk
  root_store o n j f = record {
    open' = refl;
    tree = refl;
    stamps = refl;
    limbos = λ a. refl;
    freshs = λ a. refl;
    sight = sight_root (view h m) g (m.val 0 2) t c.sight solid j.root (ripe f.W (replaced_blocks o j) (rest_blocks o j) f.qs);
    row = record {
      late = row-stored h 0 1 j.root m ∙ rw (none, b.top) refl;
      good = b.good;
      settled = f.equipped.has.loose;
      repr = still_repr m h locked g rs t c none f.W ne b.repr;
      balance = λ a. omega (arith, b.balance a, fresh a);
      unspent = λ a. omega (arith, b.rest a, fresh a);
    };
  }
    where
      none : m.late h ≡ []
      none = row_of still m h g (view h m 0 2) f.equipped.has.row c.row

      b : Built (view h m) (words_of o) g.tree f.W j.got j.used j.retired j.root f.qs
      b = subst (λ z. Built (view h m) (words_of o) g.tree f.W z j.used j.retired j.root f.qs) (sym f.equipped.all) f.built

      fresh : (a : ℕ) → cnt a g.fresh ≡ cnt a (got_blocks o j)
      fresh a = ap (cnt a) f.equipped.has.fresh

      ne : (a : ℕ) → 1 ≤ count a f.W → a ≡ 0 → ⊥
      ne a l = real c a (omega (arith, b.balance a, fresh a))

  -- To EPOCH, once nothing is late: it is one more.
  pub epoch_store : (e : ℕ) → g.row ≡ still → view h m 0 2 ≡ e → StoreOk m h g (suc t) 0 2 (e + 1) (rowed calm g)
  unfolding RowOk AllRow
  epoch_store e r is = record {
    open' = refl;
    tree = refl;
    stamps = refl;
    limbos = λ a. refl;
    freshs = λ a. refl;
    row = subst (λ z. AllRow (CalmStore g.fresh (e + 1)) z) (sym late) (((λ z. (omega arith, omega arith, λ k. refl)), (λ z. absurd (z refl))), tt);
    sight = sight_epoch (view h m) g (m.val 0 2) (suc t) (sight_later (view h m) g (m.val 0 2) t c.sight) solid (e + 1) calm (omega arith) (omega (arith, c.sight.early));
  }
    where
      none : m.late h ≡ []
      none = row_of still m h g (view h m 0 2) r c.row

      late : (stored h 0 2 (e + 1) m).late h ≡ store_of 0 2 (e + 1) ∷ []
      late = row-stored h 0 2 (e + 1) m ∙ rw none refl

  -- In limbo is what was in it.
  joined_limbo : (a : ℕ) → cnt a (g.chain ++ g.loose) + cnt a [] ≡ cnt a g.chain + cnt a g.loose
  unfolding cnt
  joined_limbo a = omega (arith, cnt-++ a g.chain g.loose)

  module _ (x : ℕ) (r : g.row ≡ calm) (links : Chain (view h m) x g.loose) (marks : (b : ℕ) → 1 ≤ cnt b g.loose → (view h m b 31 ≡ g.stamps b) × (g.stamps b < view h m 0 2)) where
    -- To LIMBO_HEAD, where limbo is empty.
    pub head_store : g.chain ≡ [] → StoreOk m h g t 0 3 x (joined g)
    head_store none = record {
      open' = refl;
      tree = refl;
      stamps = refl;
      limbos = joined_limbo;
      freshs = λ a. refl;
      row = calm_more m h g (joined g) 0 3 x (row_of calm m h g (view h m 0 2) r c.row) r refl refl ((λ z. (omega arith, omega arith, λ k. absurd (omega arith))), (λ z. absurd (z refl)));
      sight = sight_head (view h m) g (m.val 0 2) t c.sight solid x (λ b. omega (arith, used-once c b)) (λ b l. real c b (omega arith)) links marks none;
    }

    -- To NEXT_RETIRED of the last node of limbo.
    pub link_store : (b : ℕ) → (b ≡ 0 → ⊥) → b ≡ last_from 0 g.chain → StoreOk m h g t b 32 x (joined g)
    link_store b ne last = record {
      open' = open_block b 32 ne;
      tree = refl;
      stamps = refl;
      limbos = joined_limbo;
      freshs = λ a. refl;
      row = calm_more m h g (joined g) b 32 x (row_of calm m h g (view h m 0 2) r c.row) r refl (header_stays b 32 x (view h m) 2 ne) ((λ z. absurd (ne z)), (λ z l. absurd (omega arith)));
      sight = sight_link (view h m) g (m.val 0 2) t c.sight solid x (λ b. omega (arith, used-once c b)) (λ b l. real c b (omega arith)) links marks b ne last;
    }

  -- To LIMBO_TAIL: the last node of limbo.
  pub tail_store : (x : ℕ) → g.row ≡ calm → x ≡ last_from 0 g.chain → StoreOk m h g t 0 4 x (mended g)
  tail_store x r last = record {
    open' = refl;
    tree = refl;
    stamps = refl;
    limbos = λ a. refl;
    freshs = λ a. refl;
    row = calm_more m h g (mended g) 0 4 x (row_of calm m h g (view h m 0 2) r c.row) r refl refl ((λ z. (omega arith, omega arith, λ k. absurd (omega arith))), (λ z. absurd (z refl)));
    sight = sight_tail (view h m) g (m.val 0 2) t c.sight solid x last;
  }
