-- Writing images to new blocks, word by word.
use Rattle.std.proofs.Common.{◌≡◌, ℕ, suc, ◌+◌, ◌<◌, ◌≤◌, List, ap, ◌∙◌, inl, inr, arith}
use Rattle.std.proofs.lemmas.Bool.Decides.{nat_tests, eqb_tells}
use Rattle.std.proofs.lemmas.Bool.{cases_eq}
use Rattle.own.specs.Layout.{image_at, fresh_at}
use Rattle.own.specs.Images.{packed}
use Rattle.routes.specs.Memory.{set_val}
use Rattle.routes.specs.Counts.Counts.{cnt}
use Rattle.routes.specs.Keys.Keys.{Nibbles}
use Rattle.routes.specs.Tree.Trees.{Tree, count, depth}
use Rattle.routes.specs.Tree.Edits.{RouteEdit, edit}
use Rattle.routes.specs.Repr.Images.{Own}
use Rattle.routes.specs.Build.Writes.{fresh_blocks, Work, Writing, Write}
use Rattle.routes.proofs.Counts.Segments.{seg_in}
use Rattle.routes.proofs.Repr.Nodes.{repr_stays}
use Rattle.routes.proofs.Repr.Written.{written}

-- A word is written to a block that no earlier level has.
writing_word : (val : ℕ → ℕ → ℕ) (own : Own) (fresh : ℕ → ℕ) (d i : ℕ) → i < 31 → ((e : ℕ) → e < d → fresh e ≡ fresh d → ⊥) → Writing val own fresh d i →
    Writing (set_val (fresh d) i (packed (λ k. own (image_at d k)) i) val) own fresh d (suc i)
writing_word val own fresh d i hi apart g e j hj l = elim (cases_eq e d) [
  | inl q ↦ elim (eqb_tells j i) [
    | inl k ↦ rw (q, k.1) (grind (arith, nat_tests))
    | inr k ↦ let o = g e j hj (omega arith) in rw k.0 (grind (arith, nat_tests))
  ]
  | inr q ↦ let n : fresh e ≡ fresh d → ⊥ = apart e (omega arith) in let o = g e j hj (omega arith) in grind (arith, nat_tests)
]

module _ (val : ℕ → ℕ → ℕ) (own : Own) (T W : Tree) (c : RouteEdit) (ns : List ℕ) (need first retired root d : ℕ) where
  -- The block that is written is a fresh one.
  pub write_there : (i : ℕ) → d < depth ns (edit c 0 ns W) → Write val own T W c ns need first retired root d i → 1 ≤ cnt (c.fresh d) (fresh_blocks own need)
  write_there i h g = let s = g.held.spent in rw (g.blocks d h).is (seg_in own (fresh_at 0) need (first + d) (omega arith))

  -- One store.
  pub write_word : (i : ℕ) → i < 31 → d < depth ns (edit c 0 ns W) → Write val own T W c ns need first retired root d i →
      Write (set_val (c.fresh d) i (packed (λ k. own (image_at d k)) i) val) own T W c ns need first retired root d (suc i)
  write_word i hi h g = record {
    held = g.held;
    images = g.images;
    blocks = g.blocks;
    apart = g.apart;
    repr = repr_stays val (set_val (c.fresh d) i (packed (λ k. own (image_at d k)) i) val) W (λ b j l m. elim (eqb_tells b (c.fresh d)) [
      | inl e ↦ (let z = (g.blocks d h).unused in let y : count b W ≡ 0 = ap (λ z. count z W) e.1 ∙ z in absurd (omega arith))
      | inr e ↦ rw e.0
    ]) g.repr;
    words = writing_word val own c.fresh d i hi (λ e l. g.apart e d l h) g.words;
  }

  -- A level is written.
  pub write_level : Write val own T W c ns need first retired root d 31 → Write val own T W c ns need first retired root (suc d) 0
  write_level g = record { held = g.held; repr = g.repr; images = g.images; blocks = g.blocks; apart = g.apart; words = λ e j h l. g.words e j h (omega arith) }

  -- All are written: the edited tree stands.
  pub write_end : Nibbles ns → d ≡ depth ns (edit c 0 ns W) → Write val own T W c ns need first retired root d 0 →
      Work val own T (edit c 0 ns W) need (first + depth ns (edit c 0 ns W)) retired root
  write_end ok q g = record {
    held = g.held;
    repr = written val own c 0 ns W ok g.repr g.images (λ e l m. let k : e < depth ns (edit c 0 ns W) = omega arith in
        record { real = (g.blocks e k).real; small = (g.blocks e k).small; words = λ j h. g.words e j h (omega arith) });
  }
