-- Every turn of Build keeps the invariant.
use Rattle.std.proofs.Common.{◌≡◌, ℕ, suc, true, T, List, sym, ap, ◌∙◌, subst, arith, length-set}
use Rattle.words.specs.Slots.{child_of}
use Rattle.words.proofs.Packing.{child_same}
use Rattle.own.specs.Layout.{words_of}
use Rattle.own.specs.Images.{image_word}
use Rattle.own.proofs.Edited.{length-edited}
use Rattle.routes.specs.declared.update.job.Job.{Job}
use Rattle.routes.specs.declared.update.build.Build.{Build}
use Rattle.routes.specs.declared.update.build.Build.TheVariants.{Root, Read, Edit, Write as ToWrite}
use Rattle.routes.specs.declared.update.Phase.TheVariants.{Build as InBuild}
use Rattle.routes.specs.declared.work.Work.TheVariants.{Update as Updating}
use Rattle.routes.specs.Memory.{Mem, Arrives, rest, stored, counted}
use Rattle.routes.specs.Routes.{Event, State, Run, young}
use Rattle.routes.specs.Machine.Acts.{Did}
use Rattle.routes.specs.Machine.Builds.{build_act, build_after, build_words, read_words}
use Rattle.routes.specs.Late.View.{view}
use Rattle.routes.specs.Tree.Trees.{block_of}
use Rattle.routes.specs.Invariant.Building.{BuildFacts}
use Rattle.routes.specs.Invariant.Ghosts.{Ghost}
use Rattle.routes.specs.Invariant.Inv.{Cpus, Inv}
use Rattle.routes.specs.Invariant.Writers.{PhaseFacts, hall_of}
use Rattle.routes.proofs.Late.View.{view_open, open_low, open_block}
use Rattle.routes.proofs.Repr.Nodes.{repr_block}
use Rattle.routes.proofs.Invariant.BuildEdits.{images_edited}
use Rattle.routes.proofs.Invariant.BuildReads.{word_read}
use Rattle.routes.proofs.Invariant.BuildReady.{writes_block, writes_fresh}
use Rattle.routes.proofs.Invariant.BuildStarts.{root_loaded}
use Rattle.routes.proofs.Invariant.BuildWrites.{word_written}
use Rattle.routes.proofs.Invariant.CalmRows.{calm_root, calm_repr}
use Rattle.routes.proofs.Invariant.Holding.{holder_facts, holder_room}
use Rattle.routes.proofs.Invariant.Staging.{staged_clean}
use Rattle.routes.proofs.Invariant.Steps.{lock_of}
use Rattle.routes.proofs.Invariant.StoreKinds.{fresh_store}
use Rattle.routes.proofs.Invariant.Taking.{Takes, takes_load, takes_pause, takes_store, takes_later}
use Rattle.routes.proofs.Invariant.Apart.{once as used-once, used_small}

module _ {m : Mem} {g : Ghost} {trail : ℕ → List ℕ} {s : State} {t : ℕ} {c : Cpus} {p cpus blocks : ℕ} {es : List Event}
    (i : Inv m (lock_of p true) g trail s t c) (r : Run cpus blocks es s) (y : T (young (s.now' p))) (j : Job) where
  abbrev own : List ℕ
  own = c.own p

  -- The facts of a state of Build.
  facts : (st : Build) → c.work p ≡ Updating j (InBuild st) → BuildFacts (view p m) g own s.table (s.now' p) j st
  unfolding PhaseFacts
  facts st e = holder_facts i j (InBuild st) e

  -- The turn, whatever the state.
  pub build_turn : (st : Build) → c.work p ≡ Updating j (InBuild st) → (x : ℕ) (n : Mem) → Did p (build_act st own) m x n →
      Takes (suc t) c p s (build_words j st own x) (build_after j st own x) cpus blocks es n
  unfolding BuildFacts
  build_turn Root e x n d =
      let f = facts Root e in let k = f.2.has.row in
      let top : child_of x ≡ block_of g.tree = ap child_of (d.0 ∙ sym (view_open p m 0 1 (open_low 1 (omega arith) (omega arith))) ∙ calm_root m p true g s.table t i.core k) ∙ child_same (block_of g.tree) (repr_block m.val g.tree i.core.repr) in
      takes_later (takes_load i r y n own (holder_room i) (build_after j Root own x) d.1
      (root_loaded (view p m) (hall_of m) g own s.table (s.now' p) j f.0 f.1 x f.2 f.3 f.4 (calm_repr m p true g s.table t i.core k) i.core.good
      (λ b. omega (arith, used-once i.core b)) (λ b l. used_small i.core b (omega arith)) top))
  build_turn (Read k d w b) e x n did =
      let f = facts (Read k d w b) e in
      let seen : x ≡ view p m b w = did.0 ∙ sym (view_open p m b w (open_block b w f.2.real)) in
      subst (λ z. Takes (suc t) c p s (build_words j (Read k d w b) own z) (build_after j (Read k d w b) own z) cpus blocks es n) (sym seen)
      (takes_later (takes_load i r y n (read_words j d w b own (view p m b w)) (length-set _ _ _ ∙ length-set _ _ _ ∙ holder_room i) (build_after j (Read k d w b) own (view p m b w)) did.1
      (word_read (view p m) (hall_of m) g own s.table (s.now' p) j k d w b f.0 f.1 (holder_room i) f.3 (staged_clean (view p m) g own s.table (s.now' p) j k f.0 f.1).short f.4 f.2)))
  build_turn (Edit k have) e x n d =
      let f = facts (Edit k have) e in
      takes_later (takes_pause i r y n _ (length-edited own k have j.used ∙ holder_room i) (build_after j (Edit k have) own x) (subst (λ z. Arrives m z) (sym d.1) (rest m))
      (images_edited (view p m) (hall_of m) g own s.table (s.now' p) j k have f.0 f.1 (holder_room i) f.2 x))
  build_turn (ToWrite k first d w) e x n did =
      let f = facts (ToWrite k first d w) e in
      let a = subst (λ z. Arrives (counted (stored p z w (image_word (words_of own) d w) m)) n) (writes_block (view p m) g own s.table (s.now' p) j k first d w f) did.1 in
      takes_later (takes_store i r y n own (holder_room i) (build_after j (ToWrite k first d w) own x) (f.fresh d) w (image_word (words_of own) d w) t g a
      (fresh_store m p true g s.table t i.core (f.fresh d) w (image_word (words_of own) d w) f.equipped.has.row (writes_fresh (view p m) g own s.table (s.now' p) j k first d w f))
      (word_written (view p m) (hall_of m) g own s.table (s.now' p) j k first d w f))
