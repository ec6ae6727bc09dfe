-- Build: a word of a node on the way is read into its image.
use Rattle.std.proofs.Common.{◌≡◌, ℕ, suc, ◌+◌, ◌/◌, ◌<◌, ◌≤◌, true, false, ◌||◌, eqb, ltb, ◌⊎◌, List, length, get_or, drop, sym, ap, ◌∙◌, subst, inl, inr, arith, length-set}
use Rattle.std.proofs.lemmas.Bool.Decides.{eqb_tells}
use Rattle.std.proofs.lemmas.Bool.{ltb-true, ltb-false, eqb-true, eqb-false, or_parts}
use Rattle.words.specs.Address.{nib}
use Rattle.own.specs.Layout.{words_of, image_at, fresh_at, retired_at, put}
use Rattle.own.specs.Images.{noted, taken}
use Rattle.own.proofs.Words.{words_set, words_then, put_hit, put_miss}
use Rattle.routes.specs.declared.Piece.{Piece}
use Rattle.routes.specs.declared.update.job.Job.{Job}
use Rattle.routes.specs.declared.update.build.Build.TheVariants.{Read, Edit}
use Rattle.routes.specs.Routes.{Route, Now}
use Rattle.routes.specs.Machine.Begins.{blank}
use Rattle.routes.specs.Machine.Builds.{build_after, read_words, deep_in, child_in}
use Rattle.routes.specs.Machine.Checks.{piece_in}
use Rattle.routes.specs.Build.Reads.{Reading, Have}
use Rattle.routes.specs.Tree.Trees.{Tree, block_of}
use Rattle.routes.specs.Tree.Walks.{down}
use Rattle.routes.specs.Invariant.Building.{Staged, BuildFacts}
use Rattle.routes.specs.Invariant.Ghosts.{Ghost, calm}
use Rattle.routes.specs.Invariant.Writers.{Hall, PhaseFacts}
use Rattle.routes.proofs.Build.Reads.{read_word, read_child, read_level, read_end}
use Rattle.routes.proofs.Build.Stages.{stage_stays}
use Rattle.routes.proofs.Invariant.BuildReady.{staged_room}
use Rattle.routes.proofs.Invariant.GoingOn.{GoesOn, on_build, on_if}
use Rattle.routes.proofs.Invariant.OwnStays.{SameBut, equipped_stays}
use Rattle.routes.proofs.Invariant.Staging.{staged_words, staged_deep}
use Rattle.routes.proofs.Invariant.Needs.{need_few}

-- The working tree is the same, with other own words.
abbrev pub restaged : {v : ℕ → ℕ → ℕ} {g : Ghost} {o : List ℕ} {rs : List Route} {n : Now} {j : Job} {k : ℕ} {W : Tree} (s : Staged v g o rs n j k W) (o' : List ℕ) → SameBut (words_of o) (words_of o') j.retired → Staged v g o' rs n j k W
restaged {v} {g} {o} {rs} {n} {j} {k} {W} s o' same = record {
  ps = s.ps;
  qs = s.qs;
  ts = s.ts;
  here = s.here;
  equipped = equipped_stays g o o' rs n j calm s.ps s.qs j.retired same s.equipped;
  stage = stage_stays v (words_of o) (words_of o') g.tree W j.need j.used j.retired j.root s.ts s.qs (drop k s.ps) (need_few s.equipped.sure) (λ i l m. same i (inr (l, m))) s.stage;
}

-- The own words after a word was read.
pub read_words_lem : (j : Job) (o : List ℕ) (d i b x : ℕ) → length o ≡ 4096 → d ≤ 8 → i < 31 → j.retired ≤ 72 →
    words_of (read_words j d i b o x) ≡ put (retired_at (j.retired + d)) b (put (image_at d i) (taken i x) (words_of o))
read_words_lem j o d i b x r hd hi hr =
    words_then (noted o d i x) (retired_at (j.retired + d)) b (put (image_at d i) (taken i x) (words_of o)) (omega (arith, length-set o (image_at d i) (taken i x))) (words_set o (image_at d i) (taken i x) (omega arith))

module _ (v : ℕ → ℕ → ℕ) (hall : Hall) (g : Ghost) (o : List ℕ) (rs : List Route) (n : Now) (j : Job) (k d i b : ℕ) (W : Tree) (s : Staged v g o rs n j k W) where
  abbrev piece : Piece
  piece = get_or s.ps k blank

  abbrev after : List ℕ
  after = read_words j d i b o (v b i)

  abbrev imaged : ℕ → ℕ
  imaged = put (image_at d i) (taken i (v b i)) (words_of o)

  module _ (room : length o ≡ 4096) (hd : d ≤ piece.len / 4) (short : piece.len ≤ 32) (hi : i < 31) where
    -- They are as they were, but for a word of the image and a block behind the replaced ones.
    words_are : words_of after ≡ put (retired_at (j.retired + d)) b (put (image_at d i) (taken i (v b i)) (words_of o))
    words_are = read_words_lem j o d i b (v b i) room (omega arith) hi (omega (arith, (staged_room v g o rs n j k W s).1))

    -- Pieces and blocks are the same.
    same_but : SameBut (words_of o) (words_of after) j.retired
    same_but e out = ap (λ f. f e) words_are ∙ put_miss (retired_at (j.retired + d)) b imaged e (λ q. away q out) ∙ put_miss (image_at d i) (taken i (v b i)) (words_of o) e (λ q. off q out)
      where
        away : e ≡ retired_at (j.retired + d) → (e < 32) ⊎ ((fresh_at 0 ≤ e) × (e < retired_at j.retired)) → ⊥
        away q (inl l) = omega arith
        away q (inr l) = omega (arith, l.1)

        off : e ≡ image_at d i → (e < 32) ⊎ ((fresh_at 0 ≤ e) × (e < retired_at j.retired)) → ⊥
        off q (inl l) = omega arith
        off q (inr l) = omega (arith, l.0)

    -- One word more is read.
    more : Reading (words_of o) W j.retired piece.bits d i b → Reading (words_of after) W j.retired piece.bits d (suc i) b
    more f = read_word v (words_of o) (words_of after) W j.retired piece.bits d i b (omega arith) hi s.stage.work.repr f
        (ap (λ f. f (image_at d i)) words_are ∙ put_miss (retired_at (j.retired + d)) b imaged (image_at d i) (λ q. omega arith) ∙ put_hit (image_at d i) (taken i (v b i)) (words_of o))
        (ap (λ f. f (retired_at (j.retired + d))) words_are ∙ put_hit (retired_at (j.retired + d)) b imaged)
        (λ e x y. ap (λ f. f e) words_are ∙ put_miss (retired_at (j.retired + d)) b imaged e y ∙ put_miss (image_at d i) (taken i (v b i)) (words_of o) e x)

    -- The node's last word is read.
    whole : ltb i 30 ≡ false → Reading (words_of o) W j.retired piece.bits d i b → Reading (words_of after) W j.retired piece.bits d 31 b
    whole e f = let l = ltb-false i 30 e in let q : suc i ≡ 31 = omega arith in subst (λ z. Reading (words_of after) W j.retired piece.bits d z b) q (more f)

    -- The child that the image has is the next node on the way.
    child_is : ltb i 30 ≡ false → Reading (words_of o) W j.retired piece.bits d i b → child_in after d (nib d (piece_in o k).bits) ≡ block_of (down piece.bits (suc d) W)
    child_is e f = ap (λ z. child_in after d (nib d z.bits)) (staged_words v g o rs n j k W s) ∙ read_child v (words_of after) W j.retired piece.bits d b s.stage.work.repr (whole e f)

    -- What comes next: a word of the node, the next node on the way, or the edit.
    pub word_read : Reading (words_of o) W j.retired piece.bits d i b → GoesOn v hall g after rs n (build_after j (Read k d i b) o (v b i))
    unfolding PhaseFacts BuildFacts
    word_read f = on_if v hall g after rs n (ltb i 30) _ _
        (λ e. on_build v hall g after rs n j (Read k d (i + 1) b)
        (W, restaged s after same_but, (let q : suc i ≡ i + 1 = omega arith in subst (λ z. Reading (words_of after) W j.retired piece.bits d z b) q (more f)), hd, omega (arith, ltb-true i 30 e)))
        (λ e. on_if v hall g after rs n (eqb d (deep_in o k) || eqb (child_in after d (nib d (piece_in o k).bits)) 0) _ _
        (λ z. on_build v hall g after rs n j (Edit k (d + 1)) (
          W,
          restaged s after same_but,
          (let q : suc d ≡ d + 1 = omega arith in subst (λ z. Have (words_of after) W j.retired piece.bits z (piece.len / 4)) q
              (read_end v (words_of after) W j.retired piece.bits d b (piece.len / 4) s.stage.work.repr (whole e f) hd (ended e f z))),
        ))
        (λ z. on_build v hall g after rs n j (Read k (d + 1) 0 (child_in after d (nib d (piece_in o k).bits))) (
          W,
          restaged s after same_but,
          (let q : suc d ≡ d + 1 = omega arith in subst (λ y. Reading (words_of after) W j.retired piece.bits y 0 (child_in after d (nib d (piece_in o k).bits))) q
              (read_level (words_of after) W j.retired piece.bits d b _ (whole e f) (child_is e f) (eqb-false _ 0 (or_parts _ _ z).1))),
          (let h : d ≡ deep_in o k → ⊥ = eqb-false d (deep_in o k) (or_parts _ _ z).0 in let y = staged_deep v g o rs n j k W s in omega (arith, hd, y)),
          omega arith,
        )))
      where
        ended : ltb i 30 ≡ false → Reading (words_of o) W j.retired piece.bits d i b → (eqb d (deep_in o k) || eqb (child_in after d (nib d (piece_in o k).bits)) 0) ≡ true → (d ≡ piece.len / 4) ⊎ (block_of (down piece.bits (suc d) W) ≡ 0)
        ended e f z = elim (eqb_tells d (deep_in o k)) [
          | inl y ↦ inl (y.1 ∙ staged_deep v g o rs n j k W s)
          | inr y ↦ inr (sym (child_is e f) ∙ eqb-true _ 0 (rw y.0 at z))
        ]
