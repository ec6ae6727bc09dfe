-- The facts of Build let its turns be taken.
use Rattle.std.proofs.Common.{◌≡◌, ℕ, suc, ◌+◌, ◌/◌, ◌<◌, ◌≤◌, Bool, List, length, get_or, drop, sym, ap, ◌∙◌, subst, arith}
use Rattle.words.proofs.Packing.{child_same}
use Rattle.own.specs.Layout.{words_of, fresh_at}
use Rattle.routes.specs.declared.Piece.{Piece}
use Rattle.routes.specs.declared.update.job.Job.{Job}
use Rattle.routes.specs.declared.update.build.Build.{Build}
use Rattle.routes.specs.declared.update.build.Build.TheVariants.{Root, Read, Edit, Write as ToWrite}
use Rattle.routes.specs.Memory.{Mem}
use Rattle.routes.specs.Routes.{Route, Now}
use Rattle.routes.specs.Machine.Acts.{MayDo}
use Rattle.routes.specs.Machine.Begins.{blank}
use Rattle.routes.specs.Machine.Builds.{BuildOk, BuildReady, build_act}
use Rattle.routes.specs.Machine.Obtains.{fresh_in}
use Rattle.routes.specs.Build.Stages.{wants, tree_after}
use Rattle.routes.specs.Build.Writes.{fresh_blocks}
use Rattle.routes.specs.Counts.Counts.{cnt}
use Rattle.routes.specs.Keys.Keys.{way_of}
use Rattle.routes.specs.Late.View.{view}
use Rattle.routes.specs.Tree.Edits.{edit_of}
use Rattle.routes.specs.Tree.Trees.{Tree, count, depth}
use Rattle.routes.specs.Invariant.Building.{Equipped, Staged, Writes, BuildFacts}
use Rattle.routes.specs.Invariant.Ghosts.{Ghost, calm}
use Rattle.routes.specs.Invariant.Memories.{Core}
use Rattle.routes.proofs.Build.Reads.{read_there}
use Rattle.routes.proofs.Build.Stages.{stage_clean}
use Rattle.routes.proofs.Build.Writes.{write_there}
use Rattle.routes.proofs.Keys.Nibs.{nibs-length}
use Rattle.routes.proofs.Tree.Trees.{depth_few}
use Rattle.routes.proofs.Invariant.Staging.{staged_piece, staged_clean_in, staged_deep}
use Rattle.routes.proofs.Invariant.Needs.{need_few}
use Rattle.routes.proofs.Invariant.Touching.{MayAsk, used_touch, header_touch}

-- Fresh blocks that are needed are those got.
pub equipped_fresh : (g : Ghost) (o : List ℕ) (rs : List Route) (n : Now) (j : Job) (ps : List Piece) (qs : List Route) → Equipped g o rs n j calm ps qs → g.fresh ≡ fresh_blocks (words_of o) j.need
equipped_fresh g o rs n j ps qs e = e.has.fresh ∙ ap (fresh_blocks (words_of o)) e.all

module _ (v : ℕ → ℕ → ℕ) (g : Ghost) (o : List ℕ) (rs : List Route) (n : Now) (j : Job) where
  -- A block of the working tree is in the published tree or fresh.
  pub working_used : (k : ℕ) (W : Tree) → Staged v g o rs n j k W → (b : ℕ) → 1 ≤ count b W → 1 ≤ count b g.tree + cnt b g.fresh
  working_used k W s b u = omega (arith, s.stage.work.held.balance b, ap (cnt b) (equipped_fresh g o rs n j s.ps s.qs s.equipped))

  -- The next piece has room: blocks that it may use, and that it may replace.
  pub staged_room : (k : ℕ) (W : Tree) (s : Staged v g o rs n j k W) → (j.used + suc ((get_or s.ps k blank).len / 4) ≤ 72) × (j.retired + suc ((get_or s.ps k blank).len / 4) ≤ 72)
  unfolding wants
  staged_room k W s =
      let f = need_few s.equipped.sure in
      let p = staged_piece v g o rs n j k W s in
      let a = p.room in let b = p.slack in (omega arith, omega arith)

  -- A new way has at most nine levels.
  pub writes_deep : (k first d i : ℕ) (s : Writes v g o rs n j k first d i) → depth (way_of s.p.len s.p.bits) (tree_after s.p (edit_of s.p s.fresh) s.W) ≤ 9
  writes_deep k first d i s =
      let l = (stage_clean s.val s.own g.tree s.W j.need first s.retired s.root s.ts s.qs s.p (drop (suc k) s.ps) s.stage).short in
      omega (arith, depth_few (way_of s.p.len s.p.bits) (tree_after s.p (edit_of s.p s.fresh) s.W), nibs-length 0 (s.p.len / 4) s.p.bits)

  -- The block that is written is the fresh one of its level.
  pub writes_block : (k first d i : ℕ) (s : Writes v g o rs n j k first d i) → fresh_in o (first + d) ≡ s.fresh d
  writes_block k first d i s =
      let b = s.write.blocks d s.deep in
      child_same (words_of o (fresh_at (first + d))) (subst (λ z. z < 1048576) b.is b.small) ∙ sym b.is

  -- It is fresh.
  pub writes_fresh : (k first d i : ℕ) (s : Writes v g o rs n j k first d i) → 1 ≤ cnt (s.fresh d) g.fresh
  writes_fresh k first d i s =
      let u = write_there v (words_of o) g.tree s.W (edit_of s.p s.fresh) (way_of s.p.len s.p.bits) j.need first j.retired j.root d i s.deep s.write in
      omega (arith, ap (cnt (s.fresh d)) (equipped_fresh g o rs n j s.ps s.qs s.equipped))

  -- The registers of Build are in their ranges.
  pub build_ok : (s : Build) → BuildFacts v g o rs n j s → BuildOk j s o
  unfolding BuildFacts
  build_ok Root f = tt
  build_ok (Read k d i b) f =
      let s = f.1 in let r = staged_room k f.0 s in
      ((s.here, s.equipped.sure.pending.few, staged_clean_in v g o rs n j k f.0 s), omega (arith, staged_deep v g o rs n j k f.0 s, f.3), f.4, omega (arith, r.1))
  build_ok (Edit k have) f =
      let s = f.1 in let r = staged_room k f.0 s in let e = staged_deep v g o rs n j k f.0 s in
      ((s.here, s.equipped.sure.pending.few, staged_clean_in v g o rs n j k f.0 s), omega (arith, e, f.2.few), omega (arith, r.1), omega (arith, e, r.0))
  build_ok (ToWrite k first d i) f =
      let s = f in (
        s.here,
        s.equipped.sure.pending.few,
        omega (arith, writes_deep k first d i s, s.deep),
        omega (arith, need_few s.equipped.sure, s.write.held.spent, s.deep),
        s.word,
      )

-- h holds the lock, and may ask
module _ (m : Mem) (h : ℕ) (locked : Bool) (g : Ghost) (rs : List Route) (t : ℕ) (c : Core m h locked g rs t) (a : MayAsk m h) (o : List ℕ) (n : Now) (j : Job) where
  -- What a turn asks may be asked.
  build_may : (s : Build) → BuildFacts (view h m) g o rs n j s → MayDo m h (build_act s o)
  unfolding BuildFacts
  build_may Root f = header_touch c a 1 (omega arith)
  build_may (Read k d i b) f =
      let u = working_used (view h m) g o rs n j k f.0 f.1 b (read_there (words_of o) f.0 j.retired (get_or f.1.ps k blank).bits d i b f.2) in
      used_touch c a b i (omega arith) (omega (arith, f.4))
  build_may (Edit k have) f = tt
  build_may (ToWrite k first d i) f =
      let u = writes_fresh (view h m) g o rs n j k first d i f in
      rw (writes_block (view h m) g o rs n j k first d i f) (used_touch c a (f.fresh d) i (omega arith) (omega (arith, f.word)))

  -- So it may be taken.
  pub build_ready : length o ≡ 4096 → (s : Build) → BuildFacts (view h m) g o rs n j s → BuildReady m h j s o
  build_ready r s f = record { ok = build_ok (view h m) g o rs n j s f; room = r; may = build_may s f }
