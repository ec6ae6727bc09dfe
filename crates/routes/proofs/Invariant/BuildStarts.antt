-- Build: the published tree is the first working tree, and a piece is begun.
use Rattle.std.proofs.Common.{◌≡◌, ℕ, suc, ◌+◌, ◌/◌, ◌^◌, ◌<◌, ◌≤◌, eqb, List, [], ◌∷◌, length, get_or, sym, ap, ◌∙◌, subst, inl, inr, arith}
use mathlib.Core.List.Memᴰ
use mathlib.Core.List.{Memᴰ}
use Rattle.std.proofs.lemmas.Bool.{eqb-true, eqb-false}
use Rattle.words.specs.Slots.{child_of}
use Rattle.own.specs.Layout.{words_of}
use Rattle.routes.specs.declared.Piece.{Piece}
use Rattle.routes.specs.declared.update.job.Job.{Job}
use Rattle.routes.specs.declared.update.build.Build.TheVariants.{Read, Edit}
use Rattle.routes.specs.Routes.{Route, Now}
use Rattle.routes.specs.Machine.Begins.{blank}
use Rattle.routes.specs.Machine.Builds.{starting}
use Rattle.routes.specs.Machine.Jobs.{rooted}
use Rattle.routes.specs.Build.Stages.{Stage}
use Rattle.routes.specs.Build.Writes.{fresh_blocks}
use Rattle.routes.specs.Counts.Counts.{bit, cnt}
use Rattle.routes.specs.Repr.Repr.{Repr}
use Rattle.routes.specs.Tree.Trees.{Tree, block_of, count}
use Rattle.routes.specs.Tree.Walks.{Good}
use Rattle.routes.specs.Invariant.Building.{Equipped, Staged, BuildFacts}
use Rattle.routes.specs.Invariant.Ghosts.{Ghost, calm}
use Rattle.routes.specs.Invariant.Writers.{Hall, PhaseFacts}
use Rattle.routes.proofs.Build.Blocks.{held_begin}
use Rattle.routes.proofs.Build.Reads.{read_begin, have_none}
use Rattle.routes.proofs.Build.Stages.{stage_begin}
use Rattle.routes.proofs.Repr.Nodes.{repr_none}
use Rattle.routes.proofs.Table.Pieces.{changed_table}
use Rattle.routes.proofs.Invariant.BuildReady.{equipped_fresh}
use Rattle.routes.proofs.Invariant.GoingOn.{GoesOn, on_build, on_if}

-- What holds of each piece by its number holds of each.
each_piece : (P : Piece → Type 0) (ps : List Piece) → ((k : ℕ) → k < length ps → P (get_or ps k blank)) → (p : Piece) → Memᴰ p ps → P p
each_piece P [] h p m = absurd (Memᴰ.not-nil m)
each_piece P (q ∷ ps) h p m = elim (Memᴰ.cases_cons m) [
  | inl e ↦ subst P (sym e) (h 0 (omega arith))
  | inr k ↦ each_piece P ps (λ i l. h (suc i) (omega arith)) p k
]

module _ (v : ℕ → ℕ → ℕ) (hall : Hall) (g : Ghost) (o : List ℕ) (rs : List Route) (n : Now) where
  -- A piece is begun: its way is read from the working root, or there is nothing to read.
  pub starts : (j : Job) (k : ℕ) (W : Tree) → Staged v g o rs n j k W → GoesOn v hall g o rs n (starting j k)
  unfolding PhaseFacts BuildFacts
  starts j k W s = on_if v hall g o rs n (eqb j.root 0) _ _
      (λ e. on_build v hall g o rs n j (Edit k 0)
      (W, s, have_none (words_of o) W j.retired (get_or s.ps k blank).bits ((get_or s.ps k blank).len / 4) (repr_none v W s.stage.work.repr (sym s.stage.work.held.top ∙ eqb-true j.root 0 e))))
      (λ e. on_build v hall g o rs n j (Read k 0 0 j.root)
      (W, s, read_begin (words_of o) W j.retired (get_or s.ps k blank).bits j.root s.stage.work.held.top (eqb-false j.root 0 e), omega arith, omega arith))

  -- The root is loaded: the published tree is worked on, and all pieces are left.
  pub root_loaded : (j : Job) (ps : List Piece) (qs : List Route) (x : ℕ) → Equipped g o rs n j calm ps qs → j.used ≡ 0 → j.retired ≡ 0 → Repr v g.tree → Good g.tree rs →
      ((b : ℕ) → bit (eqb b 0) + count b g.tree + cnt b g.fresh ≤ 1) → ((b : ℕ) → 1 ≤ cnt b g.fresh → b < 2 ^ 20) → child_of x ≡ block_of g.tree → GoesOn v hall g o rs n (starting (rooted (child_of x) j) 0)
  root_loaded j ps qs x e u r repr good once inside top = starts (rooted (child_of x) j) 0 g.tree (record {
    ps = ps;
    qs = qs;
    ts = rs;
    here = omega (arith, e.sure.pending.some);
    equipped = record { has = e.has; whole = e.whole; awaits = e.awaits; all = e.all; sure = record { pending = e.sure.pending; makes = e.sure.makes; need = e.sure.need } };
    stage = subst (λ z. Stage v (words_of o) g.tree g.tree j.need z j.retired (child_of x) rs qs ps) (sym u)
        (subst (λ z. Stage v (words_of o) g.tree g.tree j.need 0 z (child_of x) rs qs ps) (sym r) begun);
  })
    where
      fresh : (b : ℕ) → cnt b g.fresh ≡ cnt b (fresh_blocks (words_of o) j.need)
      fresh b = ap (cnt b) (equipped_fresh g o rs n j ps qs e)

      begun : Stage v (words_of o) g.tree g.tree j.need 0 0 (child_of x) rs qs ps
      begun = stage_begin v (words_of o) g.tree j.need (child_of x) rs qs ps
          (record { repr = repr; held = held_begin (words_of o) g.tree j.need (child_of x) (λ b. omega (arith, once b, fresh b)) (λ b l. inside b (omega (arith, fresh b))) top })
          good (changed_table ps rs qs e.sure.makes)
          (each_piece (λ p. p.tells < 2 ^ 32) ps (λ k l. (e.sure.pending.fits k (omega (arith, e.sure.pending.length'))).tells)) (omega (arith, e.sure.need))
