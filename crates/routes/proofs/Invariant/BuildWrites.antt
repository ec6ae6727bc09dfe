-- Build: a word of an image is written to the fresh block of its level.
use Rattle.std.proofs.Common.{◌≡◌, ℕ, suc, ◌+◌, ◌<◌, ◌≤◌, true, false, ltb, List, length, drop, sym, subst, arith, drop_of_length-le}
use Rattle.std.proofs.lemmas.Bool.{ltb-true, ltb-false}
use Rattle.own.specs.Layout.{words_of}
use Rattle.own.specs.Images.{image_word}
use Rattle.routes.specs.declared.update.job.Job.{Job}
use Rattle.routes.specs.declared.update.build.Build.TheVariants.{Write as ToWrite}
use Rattle.routes.specs.declared.update.publish.Publish.TheVariants.{FenceNodes}
use Rattle.routes.specs.declared.update.Phase.TheVariants.{Publish as InPublish}
use Rattle.routes.specs.Memory.{set_val}
use Rattle.routes.specs.Routes.{Route, Now}
use Rattle.routes.specs.Machine.Builds.{after_write, starting}
use Rattle.routes.specs.Build.Stages.{Stage, tree_after}
use Rattle.routes.specs.Build.Writes.{Write}
use Rattle.routes.specs.Keys.Keys.{way_of}
use Rattle.routes.specs.Tree.Edits.{edit_of}
use Rattle.routes.specs.Tree.Trees.{Tree, depth}
use Rattle.routes.specs.Invariant.Building.{Writes, BuildFacts, PublishFacts}
use Rattle.routes.specs.Invariant.Ghosts.{Ghost}
use Rattle.routes.specs.Invariant.Writers.{Hall, PhaseFacts}
use Rattle.routes.proofs.Build.Stages.{stage_next, stage_end}
use Rattle.routes.proofs.Build.Writes.{write_word, write_level}
use Rattle.routes.proofs.Invariant.BuildStarts.{starts}
use Rattle.routes.proofs.Invariant.GoingOn.{GoesOn, on_build, on_publish, on_if}
use Rattle.routes.proofs.Invariant.Needs.{need_few}
use Rattle.std.specs.declared.ops.ControlFlow.TheVariants.{Continue}

module _ (v : ℕ → ℕ → ℕ) (hall : Hall) (g : Ghost) (o : List ℕ) (rs : List Route) (n : Now) (j : Job) (k first d i : ℕ) (s : Writes v g o rs n j k first d i) where
  -- the way of the piece, and the tree that it makes
  abbrev way : List ℕ
  way = way_of s.p.len s.p.bits

  abbrev new : Tree
  new = tree_after s.p (edit_of s.p s.fresh) s.W

  -- what the holder sees after the store
  abbrev v' : ℕ → ℕ → ℕ
  v' = set_val (s.fresh d) i (image_word (words_of o) d i) v

  -- The same piece at another word, once all before it is written.
  abbrev at : (e l : ℕ) → Write v' (words_of o) g.tree s.W (edit_of s.p s.fresh) way j.need first j.retired j.root e l → e < depth way new → l < 31 → Writes v' g o rs n j k first e l
  at e l w a b = record {
    ps = s.ps;
    qs = s.qs;
    ts = s.ts;
    equipped = s.equipped;
    here = s.here;
    p = s.p;
    is = s.is;
    W = s.W;
    val = s.val;
    own = s.own;
    root = s.root;
    retired = s.retired;
    have = s.have;
    fresh = s.fresh;
    stage = s.stage;
    few = s.few;
    replaced = s.replaced;
    uses = s.uses;
    write = w;
    deep = a;
    word = b;
  }

  -- One word more is written.
  one_more : Write v' (words_of o) g.tree s.W (edit_of s.p s.fresh) way j.need first j.retired j.root d (suc i)
  one_more = write_word v (words_of o) g.tree s.W (edit_of s.p s.fresh) way j.need first j.retired j.root d i s.word s.deep s.write

  -- The last word of a level is.
  level_more : ltb i 30 ≡ false → Write v' (words_of o) g.tree s.W (edit_of s.p s.fresh) way j.need first j.retired j.root (suc d) 0
  level_more e =
      let l = ltb-false i 30 e in let h = s.word in let q : suc i ≡ 31 = omega arith in
      write_level v' (words_of o) g.tree s.W (edit_of s.p s.fresh) way j.need first j.retired j.root d
      (subst (λ z. Write v' (words_of o) g.tree s.W (edit_of s.p s.fresh) way j.need first j.retired j.root d z) q one_more)

  -- The last level is: the pieces behind this one are left.
  piece_done : ltb i 30 ≡ false → ltb (first + d + 1) j.used ≡ false → (ts : List Route) × Stage v' (words_of o) g.tree new j.need j.used j.retired j.root ts s.qs (drop (suc k) s.ps)
  piece_done e z =
      let a = ltb-false (first + d + 1) j.used z in let b = s.deep in let c = s.uses in
      let q : suc d ≡ depth way new = omega arith in let u : first + suc d ≡ j.used = omega arith in
      let w = subst (λ z. Write v' (words_of o) g.tree s.W (edit_of s.p s.fresh) way j.need first z j.root (suc d) 0) s.replaced (level_more e) in
      let r = stage_next s.val v' s.own (words_of o) g.tree s.W j.need first s.retired s.root s.have j.root (suc d) s.fresh s.ts s.qs s.p (drop (suc k) s.ps) s.few s.stage q w in (
        r.0,
        subst (λ z. Stage v' (words_of o) g.tree new j.need z j.retired j.root r.0 s.qs (drop (suc k) s.ps)) u
            (subst (λ z. Stage v' (words_of o) g.tree new j.need (first + suc d) z j.root r.0 s.qs (drop (suc k) s.ps)) (sym s.replaced) r.1),
      )

  -- What comes next: a word, a level, a piece, or the publishing.
  pub word_written : GoesOn v' hall g o rs n (after_write j k first d i)
  unfolding PhaseFacts BuildFacts PublishFacts
  word_written = on_if v' hall g o rs n (ltb i 30) _ _
      (λ e. on_build v' hall g o rs n j (ToWrite k first d (i + 1))
      (let q : suc i ≡ i + 1 = omega arith in
      at d (i + 1) (subst (λ z. Write v' (words_of o) g.tree s.W (edit_of s.p s.fresh) way j.need first j.retired j.root d z) q one_more) s.deep (omega (arith, ltb-true i 30 e))))
      (λ e. on_if v' hall g o rs n (ltb (first + d + 1) j.used) _ _
      (λ z. on_build v' hall g o rs n j (ToWrite k first (d + 1) 0)
      (let q : suc d ≡ d + 1 = omega arith in
      at (d + 1) 0 (subst (λ z. Write v' (words_of o) g.tree s.W (edit_of s.p s.fresh) way j.need first j.retired j.root z 0) q (level_more e))
      (omega (arith, ltb-true (first + d + 1) j.used z, s.uses)) (omega arith)))
      (λ z. on_if v' hall g o rs n (ltb (k + 1) j.size) _ _ (next_piece e z) (last_piece e z)))
    where
      next_piece : ltb i 30 ≡ false → ltb (first + d + 1) j.used ≡ false → ltb (k + 1) j.size ≡ true → GoesOn v' hall g o rs n (starting j (k + 1))
      next_piece e z l =
          let r = piece_done e z in let q : suc k ≡ k + 1 = omega arith in
          starts v' hall g o rs n j (k + 1) new (record {
            ps = s.ps;
            qs = s.qs;
            ts = r.0;
            equipped = s.equipped;
            here = ltb-true (k + 1) j.size l;
            stage = subst (λ z. Stage v' (words_of o) g.tree new j.need j.used j.retired j.root r.0 s.qs (drop z s.ps)) q r.1;
          })

      last_piece : ltb i 30 ≡ false → ltb (first + d + 1) j.used ≡ false → ltb (k + 1) j.size ≡ false → GoesOn v' hall g o rs n (Continue (j, InPublish FenceNodes))
      last_piece e z l =
          let r = piece_done e z in let few = need_few s.equipped.sure in
          let q : length s.ps ≤ suc k = omega (arith, ltb-false (k + 1) j.size l, s.equipped.sure.pending.length') in
          let f = subst (λ z. Stage v' (words_of o) g.tree new j.need j.used j.retired j.root r.0 s.qs z) (drop_of_length-le s.ps q) r.1 in
          on_publish v' hall g o rs n j FenceNodes (record {
            ps = s.ps;
            qs = s.qs;
            W = new;
            equipped = s.equipped;
            built = stage_end v' (words_of o) g.tree new j.need j.used j.retired j.root r.0 s.qs f;
            spent = f.work.held.spent;
            few = omega (arith, f.slack);
          })
