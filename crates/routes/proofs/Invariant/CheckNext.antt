-- Check: what its turns come to, by what was loaded.
use Rattle.std.proofs.Common.{◌≡◌, ℕ, suc, ◌+◌, ◌/◌, ◌≤◌, Bool, true, false, cond, not, eqb, ltb, List, get_or, take, Ok, sym, refl, ap, ◌∙◌, inl, inr, arith}
use Rattle.std.proofs.lemmas.Bool.Decides.{eqb_tells}
use Rattle.std.proofs.lemmas.Bool.{cases_Bool, ltb-true, ltb-false}
use Rattle.words.specs.Address.{nib, place}
use Rattle.words.specs.Slots.{child_of}
use Rattle.words.proofs.Packing.{child_same}
use Rattle.own.specs.Layout.{words_of}
use Rattle.own.specs.declared.piece.Earlier.{Earlier}
use Rattle.own.specs.declared.piece.Earlier.TheVariants.{Never, Put, Taken}
use Rattle.routes.specs.declared.Piece.{Piece}
use Rattle.routes.specs.declared.refusal.Refusal.{Refusal}
use Rattle.routes.specs.declared.refusal.Refusal.TheVariants.{UncleanPrefix, AbsentRoute}
use Rattle.routes.specs.declared.update.job.Job.{Job}
use Rattle.routes.specs.declared.update.check.Check.{Check}
use Rattle.routes.specs.declared.update.check.Check.TheVariants.{Piece as AtPiece, Root, Slot, Route as AtRoute, Reject}
use Rattle.routes.specs.declared.update.obtain.Obtain.TheVariants.{Get}
use Rattle.routes.specs.declared.update.Phase.TheVariants.{Check as InCheck, Obtain as InObtain}
use Rattle.routes.specs.Refusals.{number_of}
use Rattle.routes.specs.Routes.{Route, Now, Table, Wrong, has, clean, without, piece, pieces, changed}
use Rattle.routes.specs.Machine.Begins.{blank}
use Rattle.routes.specs.Machine.Checks.{CleanIn, piece_in, earlier_in, passed, taking, looked_at, entered, found_route, decided, check_after}
use Rattle.routes.specs.Build.Stages.{wants}
use Rattle.routes.specs.Build.Checks.{there_after}
use Rattle.routes.specs.Counts.Counts.{seg}
use Rattle.routes.specs.Tree.Trees.{block_of}
use Rattle.routes.specs.Tree.Walks.{Good, down}
use Rattle.routes.specs.Repr.Repr.{Repr}
use Rattle.routes.specs.Invariant.Ghosts.{Ghost, heads}
use Rattle.routes.specs.Invariant.Readers.{Awaits}
use Rattle.routes.specs.Invariant.Holders.{Resting}
use Rattle.routes.specs.Invariant.Gathering.{Gathers}
use Rattle.routes.specs.Invariant.Checking.{Checked, Sought, OnWay, CheckFacts}
use Rattle.routes.proofs.Table.Sound.{clean-parts}
use Rattle.routes.proofs.Table.Takes.{changed_is}
use Rattle.routes.proofs.Build.Checks.{check_has, check_none}
use Rattle.routes.proofs.Repr.Nodes.{slot_down, repr_block}
use Rattle.routes.proofs.Invariant.Kinds.{with_row}
use Rattle.routes.proofs.Invariant.Passing.{take_all, stops, goes, wants_next, unclean, puts_pass, takes_by}
use Rattle.routes.specs.Machine.Nexts.{UpdateNext}
use Rattle.std.specs.declared.ops.ControlFlow.TheVariants.{Continue}

-- the change is turned away, by number
pub record Refused (g : Ghost) (rs : List Route) (n : Now) (why : ℕ) : Type 0 where
  pub resting : Resting g
  pub ps : List Piece
  pub awaits : Awaits ps n
  pub wrong : changed ps rs ≡ Wrong why

-- what a turn of Check comes to: a state of Check with its facts, blocks to be got, or Reject, and why
pub data Goes (g : Ghost) (o : List ℕ) (rs : List Route) (n : Now) (j : Job) (r : UpdateNext) : Type 0 where
  onward : (l : Job) (s : Check) → r ≡ Continue (l, InCheck s) → CheckFacts g o rs n l s → Goes g o rs n j r
  obtains : (l : Job) → r ≡ Continue (l, InObtain Get) → Gathers (with_row heads g) o rs n l → Goes g o rs n j r
  rejects : (why : Refusal) → r ≡ Continue (j, InCheck (Reject why)) → Refused g rs n (number_of why) → Goes g o rs n j r

module _ (g : Ghost) (o : List ℕ) (rs : List Route) (n : Now) (j : Job) (k : ℕ) (c : Checked g o rs n j k) where
  -- the piece in hand
  abbrev hand : Piece
  hand = get_or c.ps k blank

  -- A wrong piece is told.
  refuses : (why : Refusal) → piece hand c.passes.0 ≡ Wrong (number_of why) → Goes g o rs n j (Continue (j, InCheck (Reject why)))
  refuses why e = rejects why refl (record {
    resting = c.resting;
    ps = c.ps;
    awaits = c.awaits;
    wrong = stops o j.size c.ps c.pending k c.here rs c.passes.0 c.passes.1 (number_of why) e;
  })

  -- What is needed so far and for it is what all up to it want.
  need_more : j.need + (piece_in o k).len / 4 + 1 ≡ wants (take (k + 1) c.ps)
  need_more = ap (λ z. z + (piece_in o k).len / 4 + 1) c.need ∙ sym (wants_next o j.size c.ps c.pending k c.here rs c.passes.0 c.passes.1)

  -- A piece that passes: the next one, or the blocks that all of them need.
  passes_on : (ts : List Route) → piece hand c.passes.0 ≡ Table ts → Goes g o rs n j (passed j k (piece_in o k).len)
  unfolding CheckFacts seg
  passes_on ts e = elim (cases_Bool (ltb (k + 1) j.size)) [
    | inl y ↦ rw y (onward _ (AtPiece (k + 1)) refl (record {
      resting = c.resting;
      ps = c.ps;
      awaits = c.awaits;
      pending = c.pending;
      here = ltb-true _ _ y;
      passes = (ts, all);
      need = need_more;
      got = c.got;
      used = c.used;
      retired = c.retired;
    }))
    | inr y ↦ rw y (obtains _ refl (record {
      gathered = record {
        has = record { row = refl; loose = c.resting.has.loose; fresh = c.resting.has.fresh ∙ sym (ap (λ z. seg (words_of o) 320 z) c.got) };
        ps = c.ps;
        qs = ts;
        awaits = c.awaits;
        sure = record { pending = c.pending; makes = makes (last (ltb-false _ _ y)); need = need_more ∙ ap wants (last (ltb-false _ _ y)) };
        enough = omega (arith, c.got);
        used = c.used;
        retired = c.retired;
      };
      whole = c.resting.whole;
      wants' = omega (arith, c.got);
    }))
  ]
    where
      all : pieces (take (k + 1) c.ps) (Table rs) ≡ Table ts
      all = goes o j.size c.ps c.pending k c.here rs c.passes.0 c.passes.1 ts e

      last : j.size ≤ k + 1 → take (k + 1) c.ps ≡ c.ps
      last y = take_all (k + 1) c.ps (omega (arith, c.here, c.pending.length'))

      makes : take (k + 1) c.ps ≡ c.ps → changed c.ps rs ≡ Table ts
      makes y =
          changed_is c.ps rs (omega (arith, c.pending.length', c.pending.some)) (omega (arith, c.pending.length', c.pending.few))
          ∙ ap (λ z. pieces z (Table rs)) (sym y) ∙ all

  -- What it comes to if it takes out a route, by what is done with that before.
  taken_by : (y : Earlier) (b : Bool) → CleanIn o k → (piece_in o k).puts ≡ false → earlier_in o k ≡ y → has (piece_in o k).len (piece_in o k).bits rs ≡ b →
      piece hand c.passes.0 ≡ cond (there_after y b) (Table (without hand.len hand.bits c.passes.0)) (Wrong 3)
  taken_by y b l u e h =
      takes_by o j.size c.ps c.pending k c.here rs c.passes.0 c.passes.1 l u
      ∙ ap (λ z. cond (there_after z (has (piece_in o k).len (piece_in o k).bits rs)) (Table (without hand.len hand.bits c.passes.0)) (Wrong 3)) e
      ∙ ap (λ z. cond (there_after y z) (Table (without hand.len hand.bits c.passes.0)) (Wrong 3)) h

  -- A piece that takes out: the last earlier one with its route decides, or the tree will.
  takes_on : (y : Earlier) → CleanIn o k → (piece_in o k).puts ≡ false → earlier_in o k ≡ y → Goes g o rs n j (decided j (taking j k (piece_in o k).len y))
  unfolding there_after CheckFacts
  takes_on Put l u e = passes_on _ (taken_by Put _ l u e refl)
  takes_on Taken l u e = refuses AbsentRoute (taken_by Taken _ l u e refl)
  takes_on Never l u e = onward j (Root k) refl (c, record { clean' = l; takes = u; never = e })

  -- A clean piece, by whether it puts.
  puts_on : (u : Bool) → CleanIn o k → (piece_in o k).puts ≡ u → Goes g o rs n j (decided j (cond u (Ok (passed j k (piece_in o k).len)) (taking j k (piece_in o k).len (earlier_in o k))))
  puts_on true l u = let t = puts_pass o j.size c.ps c.pending k c.here rs c.passes.0 c.passes.1 l u in passes_on t.0 t.1
  puts_on false l u = takes_on (earlier_in o k) l u refl

  -- Piece k, before anything is loaded.
  piece_next : Goes g o rs n j (decided j (looked_at j k o))
  piece_next = elim (cases_Bool (clean (piece_in o k).len (piece_in o k).bits)) [
    | inl l ↦ rw l (puts_on (piece_in o k).puts l refl)
    | inr l ↦ rw l (refuses UncleanPrefix (unclean o j.size c.ps c.pending k c.here rs c.passes.0 c.passes.1 l))
  ]

  module _ (s : Sought o k) (val : ℕ → ℕ → ℕ) (repr : Repr val g.tree) (good : Good g.tree rs) where
    -- On to a node of the way, or it ends before.
    enters : (d b : ℕ) → d ≤ (piece_in o k).len / 4 → b ≡ block_of (down (piece_in o k).bits d g.tree) → Goes g o rs n j (decided j (entered j k (piece_in o k).len d b))
    unfolding there_after CheckFacts
    enters d b h e = elim (eqb_tells b 0) [
      | inl z ↦ rw z.0 (refuses AbsentRoute (taken_by Never false s.clean' s.takes s.never
          (check_none val g.tree rs _ _ d repr good (clean-parts _ _ s.clean') h (sym e ∙ z.1))))
      | inr z ↦ rw z.0 (elim (eqb_tells d ((piece_in o k).len / 4)) [
        | inl y ↦ rw y.0 (onward j (AtRoute k b) refl (c, s, record { here = e ∙ ap (λ i. block_of (down (piece_in o k).bits i g.tree)) y.1; real = z.1 }))
        | inr y ↦ rw y.0 (onward j (Slot k d b) refl (c, s, record { here = e; real = z.1 }, omega (arith, h, y.1)))
      ])
    ]

    -- The route word says whether it is there.
    route_next : (b x : ℕ) → OnWay g o k ((piece_in o k).len / 4) b → x ≡ val b (16 + place (piece_in o k).len (piece_in o k).bits) → Goes g o rs n j (decided j (found_route j k (piece_in o k).len x))
    unfolding there_after
    route_next b x w e = elim (cases_Bool (eqb x 0)) [
      | inl z ↦ rw z (refuses AbsentRoute (taken_by Never false s.clean' s.takes s.never (there ∙ ap not z)))
      | inr z ↦ rw z (passes_on _ (taken_by Never true s.clean' s.takes s.never (there ∙ ap not z)))
    ]
      where
        there : has (piece_in o k).len (piece_in o k).bits rs ≡ not (eqb x 0)
        there = check_has val g.tree rs _ _ b repr good (clean-parts _ _ s.clean') w.here w.real ∙ ap (λ i. not (eqb i 0)) (sym e)

-- what a state of Check loads
unfoldable pub Loads : (ℕ → ℕ → ℕ) → List ℕ → Check → ℕ → Type 0
Loads val o (AtPiece k) x = Unit {0}
Loads val o (Root k) x = x ≡ val 0 1
Loads val o (Slot k d b) x = x ≡ val b (nib d (piece_in o k).bits)
Loads val o (AtRoute k b) x = x ≡ val b (16 + place (piece_in o k).len (piece_in o k).bits)
Loads val o (Reject why) x = ⊥

-- A turn of Check, but for Reject: the facts of the state that it leads to.
pub check_next : (val : ℕ → ℕ → ℕ) (g : Ghost) (o : List ℕ) (rs : List Route) (n : Now) (j : Job) (s : Check) (x : ℕ) → val 0 1 ≡ block_of g.tree → Repr val g.tree → Good g.tree rs →
    CheckFacts g o rs n j s → Loads val o s x → Goes g o rs n j (check_after j s o x)
unfolding CheckFacts Loads down
check_next val g o rs n j (AtPiece k) x root repr good f l = piece_next g o rs n j k f
check_next val g o rs n j (Root k) x root repr good f l =
    enters g o rs n j k f.0 f.1 val repr good 0 (child_of x) (omega arith) (ap child_of (l ∙ root) ∙ child_same _ (repr_block val g.tree repr))
check_next val g o rs n j (Slot k d b) x root repr good f l =
    let z : d + 1 ≡ suc d = omega arith in
    enters g o rs n j k f.0 f.1 val repr good (d + 1) (child_of x) (omega (arith, f.3))
    (ap child_of l ∙ slot_down val g.tree _ d b repr f.2.here f.2.real ∙ ap (λ i. block_of (down (piece_in o k).bits i g.tree)) (sym z))
check_next val g o rs n j (AtRoute k b) x root repr good f l = route_next g o rs n j k f.0 f.1 val repr good b x f.2 l
check_next val g o rs n j (Reject why) x root repr good f l = absurd l
