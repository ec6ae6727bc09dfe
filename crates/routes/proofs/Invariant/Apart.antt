-- Blocks of the tree, of limbo and fresh ones are different blocks, held and in range, and none is the header.
use Rattle.std.proofs.Common.{◌≡◌, ℕ, ◌+◌, ◌^◌, ◌<◌, ◌≤◌, Bool, true, false, eqb, List, ap, inl, inr, arith}
use Rattle.std.proofs.lemmas.Bool.Decides.{nat_tests as tests}
use Rattle.std.proofs.lemmas.Bool.{cases_Bool}
use Rattle.routes.specs.Memory.{Mem}
use Rattle.routes.specs.Routes.{Route}
use Rattle.routes.specs.Counts.Counts.{bit, cnt}
use Rattle.routes.specs.Tree.Trees.{count}
use Rattle.routes.specs.Invariant.Ghosts.{Ghost, limbo}
use Rattle.routes.specs.Invariant.Memories.{Core}

-- how often a block is in use, the header aside
abbrev pub uses : Ghost → ℕ → ℕ
uses g b = count b g.tree + limbo g b + cnt b g.fresh

module _ {m : Mem} {h : ℕ} {locked : Bool} {g : Ghost} {rs : List Route} {t : ℕ} (o : Core m h locked g rs t) where
  -- A block is in one place at most, and once.
  pub once : (b : ℕ) → bit (eqb b 0) + count b g.tree + cnt b g.chain + cnt b g.loose + cnt b g.fresh ≤ 1
  once b = let e = o.blocks b in elim (cases_Bool (m.held b)) [ inl d ↦ grind (arith, tests) | inr d ↦ grind (arith, tests) ]

  -- The header is in no tree, not in limbo, and not fresh.
  pub solid : (b : ℕ) → 1 ≤ uses g b → b ≡ 0 → ⊥
  solid b i z = let e = once b in grind (arith, tests)

  -- What is in use is held.
  pub used_held : (b : ℕ) → 1 ≤ uses g b → m.held b ≡ true
  used_held b i = let e = o.blocks b in elim (cases_Bool (m.held b)) [ inl d ↦ d | inr d ↦ absurd (grind (arith, tests)) ]

  -- It is a block that there is.
  pub used_inside : (b : ℕ) → 1 ≤ uses g b → b < m.blocks
  used_inside b i = o.inside b (used_held b i)

  -- Its number fits into a slot.
  pub used_small : (b : ℕ) → 1 ≤ uses g b → b < 2 ^ 20
  used_small b i = omega (arith, used_inside b i, o.sizes.blocks)

  -- The header is held.
  pub header_held : m.held 0 ≡ true
  header_held = let e = o.blocks 0 in elim (cases_Bool (m.held 0)) [ inl d ↦ d | inr d ↦ absurd (grind (arith, tests)) ]

  -- It is a block that there is.
  pub header_inside : 0 < m.blocks
  header_inside = o.inside 0 header_held

  -- A block of the tree is neither in limbo nor fresh.
  pub tree_apart : (b : ℕ) → 1 ≤ count b g.tree → (limbo g b ≡ 0) × (cnt b g.fresh ≡ 0)
  tree_apart b i = let e = once b in (omega arith, omega arith)

  -- A block in limbo is neither in the tree nor fresh.
  pub limbo_apart : (b : ℕ) → 1 ≤ limbo g b → (count b g.tree ≡ 0) × (cnt b g.fresh ≡ 0)
  limbo_apart b i = let e = once b in (omega arith, omega arith)

  -- A fresh block is neither in the tree nor in limbo.
  pub fresh_apart : (b : ℕ) → 1 ≤ cnt b g.fresh → (count b g.tree ≡ 0) × (limbo g b ≡ 0)
  fresh_apart b i = let e = once b in (omega arith, omega arith)

  -- A linked block is not loose.
  pub chain_apart : (b : ℕ) → 1 ≤ cnt b g.chain → cnt b g.loose ≡ 0
  chain_apart b i = let e = once b in omega arith

  -- A block that is not held is not in use.
  pub free_unused : (b : ℕ) → m.held b ≡ false → uses g b ≡ 0
  free_unused b z = let e = o.blocks b in omega (arith, ap bit z)
