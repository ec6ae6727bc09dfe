-- What the holder sees after a store to LIMBO_HEAD or LIMBO_TAIL.
use Rattle.std.proofs.Common.{◌≡◌, ℕ, ◌+◌, ◌≤◌, Bool, false, List, [], ◌∷◌, sym, refl, ap, ◌∙◌, subst, inl, inr, arith}
use Rattle.std.proofs.lemmas.Bool.{cases_lt, ne_eqb}
use Rattle.routes.specs.Memory.{set_val}
use Rattle.routes.specs.Counts.Counts.{cnt}
use Rattle.routes.specs.Invariant.Ghosts.{Ghost, heads}
use Rattle.routes.specs.Invariant.Memories.{Chain, last_from, Sight}
use Rattle.routes.proofs.Invariant.Chains.{chain_header, chain_real, chain_rest, last_rest}
use Rattle.routes.proofs.Invariant.HeadCores.{regroup}

module _ {v : ℕ → ℕ → ℕ} {g : Ghost} {arrived t : ℕ} (s : Sight v g arrived t) where
  -- What follows the oldest retired node begins the rest of the chain.
  pub chain_follows : (b next : ℕ) (bs : List ℕ) → g.chain ≡ b ∷ bs → v b 32 ≡ next → Chain v next bs
  chain_follows b next bs ch follows = subst (λ z. Chain v z bs) follows (chain_rest v (v 0 3) b bs (subst (Chain v (v 0 3)) ch s.linked))

  -- The oldest retired node is unlinked: LIMBO_HEAD is what followed it.
  pub sight_head : (b next : ℕ) (bs loose fresh : List ℕ) (torn : Bool) → g.chain ≡ b ∷ bs → v b 32 ≡ next → (torn ≡ false → v 0 4 ≡ last_from 0 bs) →
      ((c : ℕ) → 1 ≤ cnt c loose → 1 ≤ cnt c g.chain + cnt c g.loose) → Sight (set_val 0 3 next v) (regroup g bs loose fresh torn heads) arrived t
  unfolding cnt
  sight_head b next bs loose fresh torn ch follows last was = record {
    ahead = s.ahead;
    early = s.early;
    linked = chain_header v (set_val 0 3 next v) next bs (λ c n. rw (ne_eqb c 0 n) refl) rest;
    ending = last;
    stamped = λ c n. (let a = s.stamped c (in_chain c n) in (rw (ne_eqb c 0 (chain_real v next bs rest c n)) a.0, a.1));
    newest = λ c n. elim (cases_lt 0 (cnt c g.chain)) [
      | inl k ↦ omega (arith, (s.stamped c k).1)
      | inr k ↦ s.newest c (omega (arith, was c n))
    ];
  }
    where
      rest : Chain v next bs
      rest = chain_follows b next bs ch follows

      in_chain : (c : ℕ) → 1 ≤ cnt c bs → 1 ≤ cnt c g.chain
      in_chain c n = subst (λ z. 1 ≤ cnt c z) (sym ch) (omega arith)

  -- Where something follows it, LIMBO_TAIL stays right.
  pub last_kept : (b next : ℕ) (bs : List ℕ) → g.chain ≡ b ∷ bs → v b 32 ≡ next → (next ≡ 0 → ⊥) → g.torn ≡ false → v 0 4 ≡ last_from 0 bs
  unfolding last_from
  last_kept b next bs ch follows some whole =
      s.ending whole ∙ (ap (last_from 0) ch ∙ last_rest v next b 0 bs (chain_follows b next bs ch follows) some)

  -- Nothing is linked, and LIMBO_TAIL says so.
  pub sight_tail : g.chain ≡ [] → Sight (set_val 0 4 0 v) (regroup g [] g.loose g.fresh false heads) arrived t
  unfolding Chain last_from cnt
  sight_tail none = record {
    ahead = s.ahead;
    early = s.early;
    linked = subst (Chain v (v 0 3)) none s.linked;
    ending = λ e. refl;
    stamped = λ c n. absurd (omega arith);
    newest = s.newest;
  }
