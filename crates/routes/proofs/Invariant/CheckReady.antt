-- Check: its registers are in their ranges, and what its turn asks may be asked.
use Rattle.std.proofs.Common.{◌≡◌, ℕ, ◌*◌, ◌<◌, ◌≤◌, Bool, List, length, take, sym, ◌∙◌, subst, arith}
use Rattle.words.proofs.Addresses.{nib_small, place_small}
use Rattle.routes.specs.declared.update.job.Job.{Job}
use Rattle.routes.specs.declared.update.check.Check.{Check}
use Rattle.routes.specs.declared.update.check.Check.TheVariants.{Piece as AtPiece, Root, Slot, Route as AtRoute, Reject}
use Rattle.routes.specs.Memory.{Mem, MayTouch}
use Rattle.routes.specs.Routes.{Route, Now}
use Rattle.routes.specs.Machine.Acts.{MayDo}
use Rattle.routes.specs.Machine.Checks.{AtPiece as AtPieceOk, CheckOk, check_act, piece_in, CheckReady}
use Rattle.routes.specs.Build.Stages.{wants}
use Rattle.routes.specs.Tree.Trees.{Tree, block_of, count}
use Rattle.routes.specs.Tree.Walks.{down}
use Rattle.routes.specs.Invariant.Ghosts.{Ghost}
use Rattle.routes.specs.Invariant.Memories.{Core}
use Rattle.routes.specs.Invariant.Checking.{Checked, OnWay, CheckFacts}
use Rattle.routes.proofs.Tree.Trees.{count_block}
use Rattle.routes.proofs.Build.Reads.{count_down}
use Rattle.routes.proofs.Build.Stages.{wants_few}
use Rattle.routes.proofs.Invariant.Touching.{MayAsk, used_touch, header_touch}
use Rattle.routes.proofs.Invariant.Passing.{take-length}

-- Each piece before the one in hand asked for at most nine blocks.
at_piece : {g : Ghost} {o : List ℕ} {rs : List Route} {n : Now} {j : Job} {k : ℕ} → Checked g o rs n j k → AtPieceOk j k
at_piece {rs = rs} {j = j} {k = k} c =
    let l = take-length k c.ps (omega (arith, c.here, c.pending.length')) in
    let w = wants_few (take k c.ps) rs c.passes.0 c.passes.1 in
    let w' : wants (take k c.ps) ≤ 9 * k = subst (λ z. wants (take k c.ps) ≤ 9 * z) l w in
    (c.here, c.pending.few, omega (arith, c.need, w'))

-- The registers of Check are in their ranges.
pub check_ok : (g : Ghost) (o : List ℕ) (rs : List Route) (n : Now) (j : Job) (s : Check) → CheckFacts g o rs n j s → CheckOk j s o
unfolding CheckFacts
check_ok g o rs n j (AtPiece k) f = at_piece f
check_ok g o rs n j (Root k) f = (at_piece f.0, f.1.clean')
check_ok g o rs n j (Slot k d b) f = (at_piece f.0, f.1.clean', f.3)
check_ok g o rs n j (AtRoute k b) f = (at_piece f.0, f.1.clean')
check_ok g o rs n j (Reject why) f = tt

module _ {m : Mem} {h : ℕ} {locked : Bool} {g : Ghost} {rs : List Route} {t : ℕ} (core : Core m h locked g rs t) (p : ℕ) (a : MayAsk m p) where
  -- A node on the way may be touched.
  way_touch : (o : List ℕ) (k d b w : ℕ) → OnWay g o k d b → w < 48 → MayTouch m p b w
  way_touch o k d b w x l =
      let there : 1 ≤ count b g.tree = subst (λ z. 1 ≤ count z g.tree) (sym x.here) (omega (arith, count_down (block_of node) g.tree (piece_in o k).bits d, count_block node (λ z. x.real (x.here ∙ z)))) in
      used_touch core a b w (omega (arith, there)) l
    where
      node : Tree
      node = down (piece_in o k).bits d g.tree

  -- What Check asks may be asked.
  pub check_may : (o : List ℕ) (n : Now) (j : Job) (s : Check) → CheckFacts g o rs n j s → MayDo m p (check_act p s o)
  unfolding CheckFacts
  check_may o n j (AtPiece k) f = tt
  check_may o n j (Root k) f = header_touch core a 1 (omega arith)
  check_may o n j (Slot k d b) f = way_touch o k d b _ f.2 (omega (arith, nib_small d (piece_in o k).bits))
  check_may o n j (AtRoute k b) f = way_touch o k _ b _ f.2 (omega (arith, place_small (piece_in o k).len (piece_in o k).bits))
  check_may o n j (Reject why) f = header_touch core a 0 (omega arith)

  -- So its turn may be taken.
  pub check_ready : (o : List ℕ) (n : Now) (j : Job) (s : Check) → length o ≡ 4096 → CheckFacts g o rs n j s → CheckReady m p j s o
  check_ready o n j s l f = record { ok = check_ok g o rs n j s f; room = l; may = check_may o n j s f }
