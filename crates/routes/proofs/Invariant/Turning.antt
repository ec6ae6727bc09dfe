-- One turn of the loop of `turns`, over its lists: what it begins with, and what it leaves.
use Rattle.std.proofs.Common.{◌≡◌, ℕ, suc, ◌+◌, ◌-◌, ◌*◌, ◌^◌, ◌<◌, ◌≤◌, Bool, true, false, not, T, List, [], ◌∷◌, length, get_or, take, drop, set, Some, Option, sym, refl, ap, ◌∙◌, subst, inl, inr, add-one, arith, length-set}
use mathlib.Core.Path.{fun_ext}
use borrow.Rule.Slice.PartMut.{put_mid}
use Rattle.std.proofs.lemmas.List.{get_or_past}
use Rattle.std.proofs.lemmas.Bool.{cases_lt}
use Rattle.routes.specs.declared.Answer.{Answer}
use Rattle.routes.specs.declared.Ask.{Ask}
use Rattle.routes.specs.declared.Cpu.{Cpu}
use Rattle.routes.specs.declared.Piece.{Piece}
use Rattle.routes.specs.declared.Turn.{Turn}
use Rattle.routes.specs.declared.Turn.TheVariants.{Begin, Go}
use Rattle.routes.specs.declared.work.Work.TheVariants.{Idle}
use Rattle.routes.specs.Memory.{Mem, AtStart, Arrives, allowed}
use Rattle.routes.specs.Routes.{Event, Asked, Told, Turned, Explained, under}
use Rattle.routes.specs.Asked.{Next, pieces_of}
use Rattle.routes.specs.Machine.Begins.{begin_work, begin_words}
use Rattle.routes.specs.Machine.Cpus.{Ready, Stepped, Begun, WorkOk, act, work_after, words_after, told_after}
use Rattle.routes.specs.Invariant.Inv.{set_cpu}
use Rattle.routes.specs.Invariant.Known.{Known, Between, idle_cpu, part_of, cpus_of, seen_of, idle_cpus, After}
use Rattle.routes.proofs.Basics.Tests.{T_true}
use Rattle.routes.proofs.Invariant.Mains.{known_start, known_next, known_begin, known_later, known_ready, known_step}
use Rattle.routes.proofs.Invariant.Parts.{part_length, cpus_put, put-length}
use Rattle.routes.proofs.Invariant.Sizes.{did_sizes}
use Rattle.routes.proofs.Late.Arriving.{Later, arrives_later}

-- A test that does not hold is false.
not-false : (b : Bool) → T (not b) → b ≡ false
not-false true t = absurd t
not-false false t = refl

-- Before the first turn all registers are idle.
pub turning_start : (m : Mem) (es : List Event) (cs : List Cpu) (own : List ℕ) (ps : List Piece) → AtStart m → es ≡ [] → ((q : ℕ) → q < length cs → (get_or cs q idle_cpu).work ≡ Idle) →
    length cs ≡ m.cpus → length own ≡ 4096 * m.cpus → length ps ≡ 8 → Between m es 0 cs own ps
turning_start m es cs own ps a none idle regs words eight = record {
  known = subst (λ z. Known m z 0 (cpus_of cs own)) (sym none) (subst (Known m [] 0) same (known_start m (λ q. part_of q own) a (λ q l. part_length own m.cpus q words l)));
  registers = regs;
  words = words;
  pieces = eight;
}
  where
    all : (q : ℕ) → Idle ≡ (get_or cs q idle_cpu).work
    all q = elim (cases_lt q (length cs)) [
      | inl l ↦ sym (idle q l)
      | inr l ↦ sym (ap (λ y. y.work) (get_or_past cs q idle_cpu l))
    ]

    same : idle_cpus (λ q. part_of q own) ≡ cpus_of cs own
    same = λ i. record { work = fun_ext all i; own = λ q. part_of q own }

module _ {m : Mem} {es : List Event} {t : ℕ} {cs : List Cpu} {own : List ℕ} {ps : List Piece} (b : Between m es t cs own ps) (p : ℕ) where
  -- Who begins something is a processor that there is,
  pub begins_inside : (fs : List Event) (ps' : List Piece) {turn : Turn} {k : Ask} → turn ≡ Begin k → Next turn p ps' m es fs → p < length cs
  unfolding Next
  begins_inside fs ps' {turn} {k} e x = let next : Next (Begin k) p ps' m es fs = subst (λ z. Next z p ps' m es fs) e x in rw b.registers next.0

  -- and so is who goes on.
  pub goes_inside : (fs : List Event) (ps' : List Piece) {turn : Turn} → turn ≡ Go → Next turn p ps' m es fs → p < length cs
  unfolding Next
  goes_inside fs ps' e x = let next : Next Go p ps' m es fs = subst (λ z. Next z p ps' m es fs) e x in rw b.registers next.0

  -- It has its part of the own words.
  pub turning_room : p < length cs → p * 4096 + 4096 ≤ length own
  turning_room l = let r = b.registers in let w = b.words in omega arith

-- To go on shows nothing new.
pub goes_seen : (m : Mem) {es fs : List Event} (ps' : List Piece) {turn : Turn} (p : ℕ) → turn ≡ Go → Next turn p ps' m es fs → fs ≡ es
unfolding Next
goes_seen m {es} {fs} ps' p e x = (subst (λ z. Next z p ps' m es fs) e x).2

-- after a turn of p, and before the world has taken note of it
pub record Turned' (m : Mem) (es : List Event) (t : ℕ) (cs : List Cpu) (own : List ℕ) (ps : List Piece) (p : ℕ) (r : Option Answer) : Type 0 where
  pub after : After m es t (cpus_of cs own) p r
  pub registers : length cs ≡ m.cpus
  pub words : length own ≡ 4096 * m.cpus
  pub pieces : length ps ≡ 8

-- The world has taken note of all of it.
pub turning_noted : {m : Mem} {es : List Event} {t : ℕ} {cs : List Cpu} {own : List ℕ} {ps : List Piece} {p : ℕ} {r : Option Answer} (n : Mem) (fs : List Event) → n ≡ m → fs ≡ seen_of p r es → Turned' m es t cs own ps p r → Between n fs t cs own ps
turning_noted {m} {es} {t} {cs} {own} {ps} {p} {r} n fs e f w = subst (λ z. Between z fs t cs own ps) (sym e) (subst (λ z. Between m z t cs own ps) (sym f)
    (record { known = w.after.known; registers = w.registers; words = w.words; pieces = w.pieces }))

-- the world has said that p is next, and stores have arrived since
module _ {m : Mem} {es : List Event} {t : ℕ} {cs : List Cpu} {own : List ℕ} {ps : List Piece} (b : Between m es t cs own ps) (p : ℕ) (n : Mem) (a : Arrives (allowed p m) n) where
  -- the part of the own words that p was lent
  abbrev lent : List ℕ
  lent = take (p * 4096 + 4096 - p * 4096) (drop (p * 4096) own)

  -- It is p's part.
  lent_is : lent ≡ part_of p own
  unfolding part_of
  lent_is = let q : p * 4096 + 4096 - p * 4096 ≡ 4096 = omega arith in ap (λ y. take y (drop (p * 4096) own)) q

  -- Arriving keeps who may ask, and how often.
  later : Later (allowed p m) n
  later = arrives_later a

  -- It is known still.
  known_now : Known n es t (cpus_of cs own)
  known_now = known_next _ _ _ _ _ p b.known a

  -- what registers and own words of p become is known
  module _ (d : Cpu) (u : List ℕ) (small : p < m.cpus) (long : length u ≡ length lent) where
    abbrev cs' : List Cpu
    cs' = set cs p d

    abbrev own' : List ℕ
    own' = put_mid (p * 4096) (p * 4096 + 4096 - p * 4096) own u

    -- They are those of p, and all others stay.
    put_is : cpus_of cs' own' ≡ set_cpu p d.work u (cpus_of cs own)
    put_is = cpus_put own u m.cpus p (p * 4096 + 4096 - p * 4096) b.words small (long ∙ ap length lent_is ∙ part_length own m.cpus p b.words small) (omega arith) cs d (rw b.registers small)

    -- As many as there were.
    put_registers : length cs' ≡ n.cpus
    put_registers = length-set cs p d ∙ (b.registers ∙ sym later.cpus)

    put_words : length own' ≡ 4096 * n.cpus
    put_words = put-length own u m.cpus p (p * 4096 + 4096 - p * 4096) b.words small (long ∙ ap length lent_is ∙ part_length own m.cpus p b.words small) (omega arith) ∙ ap (λ z. 4096 * z) (sym later.cpus)

  -- Something begins.
  pub turning_begin : {fs : List Event} {ps' : List Piece} {turn : Turn} {k : Ask} (d : Cpu) (u : List ℕ) → turn ≡ Begin k → Next turn p ps' m es fs → length ps' ≡ 8 → length u ≡ length lent → Begun k ps' lent d u →
      Between n fs (t + 1) (set cs p d) (put_mid (p * 4096) (p * 4096 + 4096 - p * 4096) own u) ps'
  unfolding Next
  turning_begin {fs} {ps'} {turn} {k} d u e x eight long g = record
      { known = known; registers = put_registers d u small long; words = put_words d u small long; pieces = eight }
    where
      next : Next (Begin k) p ps' m es fs
      next = subst (λ z. Next z p ps' m es fs) e x

      small : p < m.cpus
      small = next.0

      known : Known n fs (t + 1) (cpus_of (set cs p d) (put_mid (p * 4096) (p * 4096 + 4096 - p * 4096) own u))
      known = subst (λ z. Known n fs z (cpus_of (set cs p d) (put_mid (p * 4096) (p * 4096 + 4096 - p * 4096) own u))) (sym (add-one t))
          (subst (Known n fs (suc t)) (sym (put_is d u small long))
          (known_later (subst (λ z. Known n z t (set_cpu p d.work u (cpus_of cs own))) (sym next.2) begun)))
        where
          begun : Known n (Asked p k (pieces_of k ps') ∷ es) t (set_cpu p d.work u (cpus_of cs own))
          begun = subst (λ w. Known n (Asked p k (pieces_of k ps') ∷ es) t (set_cpu p w u (cpus_of cs own))) (sym g.work)
              (subst (λ y. Known n (Asked p k (pieces_of k ps') ∷ es) t (set_cpu p (begin_work k) y (cpus_of cs own))) (sym (g.words ∙ ap (begin_words k ps') lent_is))
              (known_begin _ _ _ _ p k ps' known_now (rw later.cpus small) (not-false (under p es) next.1) eight g.fits))

  -- A turn may be taken.
  pub turning_ready : (fs : List Event) (ps' : List Piece) {turn : Turn} → turn ≡ Go → Next turn p ps' m es fs → suc t < 2 ^ 64 → (1 ≤ n.left) × Ready n p (get_or cs p idle_cpu) lent
  unfolding Next
  turning_ready fs ps' e x soon = (left, subst (Ready n p (get_or cs p idle_cpu)) (sym lent_is) (known_ready _ _ _ _ p known_now (rw later.cpus next.0) left (sym later.who) soon))
    where
      next : Next Go p ps' m es fs
      next = subst (λ z. Next z p ps' m es fs) e x

      left : 1 ≤ n.left
      left = omega (arith, later.left)

  -- It was taken.
  pub turning_step : (fs : List Event) {ps' : List Piece} {turn : Turn} {r : Option Answer} {n' : Mem} (d : Cpu) (u : List ℕ) → turn ≡ Go → Next turn p ps' m es fs → suc t < 2 ^ 64 → length ps' ≡ 8 → length u ≡ length lent →
      Stepped p n (get_or cs p idle_cpu) lent r n' d u → Turned' n' es (t + 1) (set cs p d) (put_mid (p * 4096) (p * 4096 + 4096 - p * 4096) own u) ps' p r
  unfolding Next
  turning_step fs {ps'} {turn} {r} {n'} d u e x soon eight long st = record {
    after = after;
    registers = put_registers d u small long ∙ sym size.0;
    words = put_words d u small long ∙ ap (λ z. 4096 * z) (sym size.0);
    pieces = eight;
  }
    where
      next : Next Go p ps' m es fs
      next = subst (λ z. Next z p ps' m es fs) e x

      small : p < m.cpus
      small = next.0

      w : Stepped p n (get_or cs p idle_cpu) (part_of p own) r n' d u
      w = subst (λ o. Stepped p n (get_or cs p idle_cpu) o r n' d u) lent_is st

      size : (n'.cpus ≡ n.cpus) × (n'.blocks ≡ n.blocks)
      size = did_sizes p (act p (get_or cs p idle_cpu).work (part_of p own)) n w.reply n' w.did

      ok : WorkOk (get_or cs p idle_cpu).work (part_of p own)
      ok = (known_ready _ _ _ _ p known_now (rw later.cpus small) (omega (arith, later.left)) (sym later.who) soon).ok

      went : After n' es (suc t) (set_cpu p (work_after n.cpus (get_or cs p idle_cpu).work (part_of p own) w.reply) (words_after (get_or cs p idle_cpu).work (part_of p own) w.reply) (cpus_of cs own)) p
          (told_after n.cpus (get_or cs p idle_cpu).work (part_of p own) w.reply)
      went = known_step _ _ _ _ _ p w.reply known_now (T_true (under p es) next.1) ok w.did

      after : After n' es (t + 1) (cpus_of (set cs p d) (put_mid (p * 4096) (p * 4096 + 4096 - p * 4096) own u)) p r
      after = subst (λ z. After n' es z (cpus_of (set cs p d) (put_mid (p * 4096) (p * 4096 + 4096 - p * 4096) own u)) p r) (sym (add-one t))
          (subst (λ c. After n' es (suc t) c p r) (sym (put_is d u small long))
          (subst (λ z. After n' es (suc t) (set_cpu p z u (cpus_of cs own)) p r) (sym w.work)
          (subst (λ z. After n' es (suc t) (set_cpu p (work_after n.cpus (get_or cs p idle_cpu).work (part_of p own) w.reply) z (cpus_of cs own)) p r) (sym w.words)
          (subst (λ z. After n' es (suc t) (set_cpu p (work_after n.cpus (get_or cs p idle_cpu).work (part_of p own) w.reply) (words_after (get_or cs p idle_cpu).work (part_of p own) w.reply) (cpus_of cs own)) p z) (sym w.told) went))))

module _ {m : Mem} {es : List Event} {t : ℕ} {cs : List Cpu} {own : List ℕ} {ps : List Piece} {p : ℕ} {r : Option Answer} (w : Turned' m es t cs own ps p r) where
  -- That it had a turn is explained.
  pub turning_turned : (fs : List Event) → fs ≡ es → Explained m.cpus m.blocks (Turned p ∷ fs)
  turning_turned fs e = subst (λ z. Explained m.cpus m.blocks (Turned p ∷ z)) (sym e) w.after.turned

  -- What it tells is.
  pub turning_told : (a : Answer) (n : Mem) (fs : List Event) → r ≡ Some a → n ≡ m → fs ≡ Turned p ∷ es → Explained n.cpus n.blocks (Told p a ∷ fs)
  turning_told a n fs e f h = subst (λ z. Explained z.cpus z.blocks (Told p a ∷ fs)) (sym f) (subst (λ z. Explained m.cpus m.blocks (Told p a ∷ z)) (sym h)
      (subst (λ z. Explained m.cpus m.blocks (seen_of p z es)) e (w.after.known.state, w.after.known.run)))
