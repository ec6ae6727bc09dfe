-- What the holder sees of epochs and limbo, after its stores.
use Rattle.std.proofs.Common.{◌≡◌, ℕ, ◌+◌, ◌<◌, ◌≤◌, true, false, [], ◌++◌, sym, ap, ◌∙◌, subst, inl, inr, arith}
use Rattle.std.proofs.lemmas.Bool.{cases_lt}
use Rattle.routes.specs.Memory.{set_val}
use Rattle.routes.specs.Counts.Counts.{cnt}
use Rattle.routes.specs.Invariant.Ghosts.{Ghost, Row}
use Rattle.routes.specs.Invariant.Memories.{Chain, last_from, Sight}
use Rattle.routes.proofs.Basics.Places.{set_val_miss}
use Rattle.routes.proofs.Counts.Lists.{cnt-++}
use Rattle.routes.proofs.Invariant.Chains.{chain_stays, chain_set, join_chain}

-- with another kind of late row
abbrev pub rowed : Row → Ghost → Ghost
rowed r g = record { tree = g.tree; chain = g.chain; loose = g.loose; fresh = g.fresh; stamps = g.stamps; torn = g.torn; row = r }

-- what is loose goes behind the chain, whose tail is wrong for now
abbrev pub joined : Ghost → Ghost
joined g = record { tree = g.tree; chain = g.chain ++ g.loose; loose = []; fresh = g.fresh; stamps = g.stamps; torn = true; row = g.row }

-- the tail is right
abbrev pub mended : Ghost → Ghost
mended g = record { tree = g.tree; chain = g.chain; loose = g.loose; fresh = g.fresh; stamps = g.stamps; torn = false; row = g.row }

-- A word of the header differs from a word of another block.
pub header_stays : (b w x : ℕ) (v : ℕ → ℕ → ℕ) (i : ℕ) → (b ≡ 0 → ⊥) → set_val b w x v 0 i ≡ v 0 i
header_stays b w x v i ne = set_val_miss b w x v 0 i (λ d. ne (sym d.0))

-- A word of another block differs from a word of the header.
pub block_stays : (w x : ℕ) (v : ℕ → ℕ → ℕ) (b i : ℕ) → (b ≡ 0 → ⊥) → set_val 0 w x v b i ≡ v b i
block_stays w x v b i ne = set_val_miss 0 w x v b i (λ d. ne d.0)

module _ (v : ℕ → ℕ → ℕ) (g : Ghost) (e t : ℕ) (s : Sight v g e t) where
  -- A store to a block that is not retired and linked.
  pub sight_apart : (b w x : ℕ) → (b ≡ 0 → ⊥) → cnt b g.chain ≡ 0 → Sight (set_val b w x v) g e t
  sight_apart b w x ne off =
      let two = header_stays b w x v 2 ne in let three = header_stays b w x v 3 ne in let four = header_stays b w x v 4 ne in
      record {
        ahead = rw two s.ahead;
        early = rw two s.early;
        linked = rw three (chain_set v (v 0 3) b w x g.chain off s.linked);
        ending = λ f. four ∙ s.ending f;
        stamped = λ k l. (set_val_miss b w x v k 31 (λ d. (let z : cnt k g.chain ≡ cnt b g.chain = ap (λ z. cnt z g.chain) d.0 in omega arith)) ∙ (s.stamped k l).0, rw two (s.stamped k l).1);
        newest = λ k l. rw two (s.newest k l);
      }

  module _ (solid : (b : ℕ) → 1 ≤ cnt b g.chain → b ≡ 0 → ⊥) where
    -- A store to a word of the header that has no epoch and no limbo.
    pub sight_root : (x : ℕ) (r : Row) → Sight (set_val 0 1 x v) (rowed r g) e t
    sight_root x r = record {
      ahead = s.ahead;
      early = s.early;
      ending = s.ending;
      newest = s.newest;
      linked = chain_stays v (set_val 0 1 x v) (v 0 3) g.chain (λ b l. block_stays 1 x v b 32 (solid b l)) s.linked;
      stamped = λ b l. (block_stays 1 x v b 31 (solid b l) ∙ (s.stamped b l).0, (s.stamped b l).1);
    }

    -- EPOCH is raised.
    pub sight_epoch : (x : ℕ) (r : Row) → v 0 2 < x → x ≤ t → Sight (set_val 0 2 x v) (rowed r g) e t
    sight_epoch x r more few = record {
      ahead = omega (arith, s.ahead);
      early = few;
      ending = s.ending;
      linked = chain_stays v (set_val 0 2 x v) (v 0 3) g.chain (λ b l. block_stays 2 x v b 32 (solid b l)) s.linked;
      stamped = λ b l. (block_stays 2 x v b 31 (solid b l) ∙ (s.stamped b l).0, omega (arith, (s.stamped b l).1));
      newest = λ b l. omega (arith, s.newest b l);
    }

    -- LIMBO_TAIL is the last of the chain.
    pub sight_tail : (x : ℕ) → x ≡ last_from 0 g.chain → Sight (set_val 0 4 x v) (mended g) e t
    sight_tail x last = record {
      ahead = s.ahead;
      early = s.early;
      ending = λ f. last;
      newest = s.newest;
      linked = chain_stays v (set_val 0 4 x v) (v 0 3) g.chain (λ b l. block_stays 4 x v b 32 (solid b l)) s.linked;
      stamped = λ b l. (block_stays 4 x v b 31 (solid b l) ∙ (s.stamped b l).0, (s.stamped b l).1);
    }

    module _ (x : ℕ) (once : (b : ℕ) → cnt b g.chain + cnt b g.loose ≤ 1) (real : (b : ℕ) → 1 ≤ cnt b g.loose → b ≡ 0 → ⊥) (links : Chain v x g.loose)
        (marks : (b : ℕ) → 1 ≤ cnt b g.loose → (v b 31 ≡ g.stamps b) × (g.stamps b < v 0 2)) where
      -- Stamps of both.
      both : (b : ℕ) → 1 ≤ cnt b (g.chain ++ g.loose) → (b ≡ 0 → ⊥) × (v b 31 ≡ g.stamps b) × (g.stamps b < v 0 2)
      both b l = elim (cases_lt 0 (cnt b g.loose)) [
        | inl i ↦ (real b i, (marks b i).0, (marks b i).1)
        | inr i ↦ (let k : 1 ≤ cnt b g.chain = omega (arith, cnt-++ b g.chain g.loose) in (solid b k, (s.stamped b k).0, (s.stamped b k).1))
      ]

      -- What is loose becomes the chain, where there was none.
      pub sight_head : g.chain ≡ [] → Sight (set_val 0 3 x v) (joined g) e t
      unfolding cnt
      sight_head none = record {
        ahead = s.ahead;
        early = s.early;
        ending = λ f. cc;
        newest = λ b l. absurd (omega arith);
        linked = subst (λ z. Chain (set_val 0 3 x v) x (z ++ g.loose)) (sym none) (chain_stays v (set_val 0 3 x v) x g.loose (λ b l. block_stays 3 x v b 32 (real b l)) links);
        stamped = λ b l. (let f = both b l in (block_stays 3 x v b 31 f.0 ∙ f.1, f.2));
      }

      -- Or it is linked to the chain's last.
      pub sight_link : (b : ℕ) → (b ≡ 0 → ⊥) → b ≡ last_from 0 g.chain → Sight (set_val b 32 x v) (joined g) e t
      unfolding cnt
      sight_link b ne last =
          let two = header_stays b 32 x v 2 ne in let three = header_stays b 32 x v 3 ne in
          record {
            ahead = rw two s.ahead;
            early = rw two s.early;
            ending = λ f. cc;
            newest = λ k l. absurd (omega arith);
            linked = rw three (join_chain v (v 0 3) x b g.chain g.loose ne last once s.linked links);
            stamped = λ k l. (let f = both k l in (set_val_miss b 32 x v k 31 (λ d. (let z = d.1 in omega arith)) ∙ f.1, rw two f.2));
          }
