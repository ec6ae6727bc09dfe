-- What an update needs: at most 72 blocks, and how its pieces come to a table.
use Rattle.std.proofs.Common.{◌≡◌, ℕ, ◌<◌, ◌≤◌, true, false, ◌||◌, eqb, ltb, List, [], length, ap, arith}
use Rattle.own.specs.Layout.{words_of}
use Rattle.std.proofs.lemmas.Bool.Decides.{nat_tests}
use Rattle.routes.specs.declared.Piece.{Piece}
use Rattle.routes.specs.declared.update.job.Job.{Job}
use Rattle.routes.specs.Routes.{Route, Table, pieces, too_much}
use Rattle.routes.specs.Counts.Counts.{cnt}
use Rattle.routes.specs.Tree.Walks.{Good}
use Rattle.routes.specs.Invariant.Ghosts.{Ghost}
use Rattle.routes.specs.Invariant.Holders.{Sure, AllUsed, got_blocks}
use Rattle.routes.proofs.Build.Full.{full_much}
use Rattle.routes.proofs.Build.Stages.{wants_few}
use Rattle.routes.proofs.Counts.Segments.{length-seg}

module _ {rs : List Route} {o : List ℕ} {j : Job} {ps : List Piece} {qs : List Route} (u : Sure rs o j ps qs) where
  -- The number of its pieces is right, so they come to the table one by one.
  pub sure_pieces : pieces ps (Table rs) ≡ Table qs
  sure_pieces =
      let a = u.pending.length' in let b = u.pending.some in let d = u.pending.few in
      let test : (eqb (length ps) 0 || ltb 8 (length ps)) ≡ false = grind (arith, nat_tests) in
      rw test at u.makes

  -- Each piece wants at most 9 blocks.
  pub need_few : j.need ≤ 72
  need_few = omega (arith, wants_few ps rs qs sure_pieces, u.need, u.pending.length', u.pending.few)

  -- Where every block is in use, nothing is retired and fewer are got than are needed, there are too many routes.
  pub full_is : (blocks : ℕ) (g : Ghost) → Good g.tree rs → AllUsed blocks g → g.chain ≡ [] → g.loose ≡ [] → g.fresh ≡ got_blocks o j → j.got < j.need → too_much blocks rs qs ≡ true
  unfolding cnt
  full_is blocks g good all none settled fresh less =
      full_much blocks g.tree (got_blocks o j) rs qs ps
      (λ b l. (let a = all b l in let x : cnt b g.chain ≡ 0 = ap (cnt b) none in let y : cnt b g.loose ≡ 0 = ap (cnt b) settled in let z : cnt b g.fresh ≡ cnt b (got_blocks o j) = ap (cnt b) fresh in omega arith))
      (omega (arith, length-seg (words_of o) 320 j.got, need_few)) good (omega (arith, u.pending.length', u.pending.few)) sure_pieces
