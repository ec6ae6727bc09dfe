-- Each processor's part of the own words: one is put back, and all others are as they were.
use Rattle.std.proofs.Common.{◌≡◌, ℕ, ◌+◌, ◌-◌, ◌*◌, ◌<◌, ◌≤◌, List, length, get_or, take, drop, set, sym, ap, ◌∙◌, inl, inr, arith, length-append, length-drop, length-take, get_or-set_other, get_or-set_same}
use mathlib.Core.Path.{fun_ext}
use borrow.Rule.Slice.PartMut.{put_mid}
use Rattle.std.proofs.lemmas.List.{drop-take}
use Rattle.std.proofs.lemmas.Slice.{take-put_mid_below, drop-put_mid, between-put_mid}
use Rattle.std.proofs.lemmas.Bool.{cases_lt}
use Rattle.std.proofs.lemmas.Bool.Decides.{eqb_tells}
use Rattle.routes.specs.declared.Cpu.{Cpu}
use Rattle.routes.specs.Memory.{set_at}
use Rattle.routes.specs.Invariant.Inv.{set_cpu}
use Rattle.routes.specs.Invariant.Known.{idle_cpu, part_of, cpus_of}

-- A part has 4,096 words.
pub part_length : (own : List ℕ) (n q : ℕ) → length own ≡ 4096 * n → q < n → length (part_of q own) ≡ 4096
unfolding part_of
part_length own n q l h = simp (length-take, length-drop) (omega arith)

-- own has n parts, and part p becomes u
module _ (own u : List ℕ) (n p k : ℕ) (l : length own ≡ 4096 * n) (h : p < n) (s : length u ≡ 4096) (z : k ≡ 4096) where
  abbrev put : List ℕ
  put = put_mid (p * 4096) k own u

  -- That part is what was put.
  pub part_own : part_of p put ≡ u
  unfolding part_of
  part_own = let q : p * 4096 + 4096 - p * 4096 ≡ 4096 = omega arith in
      ap (λ y. take y (drop (p * 4096) put)) (sym q) ∙ between-put_mid (p * 4096) k own u (p * 4096 + 4096) (omega arith) (omega arith)

  -- All others are as they were.
  pub part_other : (q : ℕ) → (q ≡ p → ⊥) → part_of q put ≡ part_of q own
  unfolding part_of
  part_other q ne = elim (cases_lt q p) [
    | inl b ↦ sym (drop-take (q * 4096) 4096 put) ∙ (ap (drop (q * 4096)) (take-put_mid_below (p * 4096) k own u (q * 4096 + 4096) (omega arith) (omega arith)) ∙ drop-take (q * 4096) 4096 own)
    | inr b ↦ ap (take 4096) (drop-put_mid (p * 4096) k own u (q * 4096) (let d : p < q = above b in omega arith) (omega arith) (omega arith))
  ]
    where
      above : p ≤ q → p < q
      above b = let f = ne in grind arith

  -- As many words as before.
  pub put-length : length put ≡ 4096 * n
  put-length = simp (length-append, length-take, length-drop) (omega arith)

  -- Registers and own words of p are new, and those of all others as they were.
  pub cpus_put : (cs : List Cpu) (d : Cpu) → p < length cs → cpus_of (set cs p d) put ≡ set_cpu p d.work u (cpus_of cs own)
  cpus_put cs d small = λ i. record { work = works i; own = owns i }
    where
      works : (λ q. (get_or (set cs p d) q idle_cpu).work) ≡ set_at p d.work (λ q. (get_or cs q idle_cpu).work)
      works = fun_ext (λ q. elim (eqb_tells q p) [
        | inl e ↦ rw e.0 (rw e.1 (ap (λ y. y.work) (get_or-set_same cs p d idle_cpu small)))
        | inr e ↦ rw e.0 (ap (λ y. y.work) (get_or-set_other cs p q d idle_cpu e.1))
      ])

      owns : (λ q. part_of q put) ≡ set_at p u (λ q. part_of q own)
      owns = fun_ext (λ q. elim (eqb_tells q p) [
        | inl e ↦ rw e.0 (ap (λ y. part_of y put) e.1 ∙ part_own)
        | inr e ↦ rw e.0 (part_other q e.1)
      ])
