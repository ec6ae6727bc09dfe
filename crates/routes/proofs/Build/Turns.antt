-- The turn in which the images of a piece are edited: from nodes that are read to nodes to be written.
use Rattle.std.proofs.Common.{◌≡◌, ℕ, suc, ◌+◌, ◌-◌, ◌<◌, ◌≤◌, List, length, sym, ap, ◌∙◌, subst, zero-add, arith}
use Rattle.std.proofs.lemmas.Bool.Decides.{nat_tests}
use Rattle.std.proofs.lemmas.Bool.{eq-eqb}
use Rattle.own.specs.Layout.{fresh_at, retired_at}
use Rattle.own.specs.Functions.{blanked_in}
use Rattle.routes.specs.Counts.Counts.{cnt, seg}
use Rattle.routes.specs.Keys.Keys.{nibs}
use Rattle.routes.specs.Tree.Trees.{Tree, block_of, path, depth}
use Rattle.routes.specs.Tree.Edits.{RouteEdit, edit}
use Rattle.routes.specs.Tree.Walks.{down}
use Rattle.routes.specs.Repr.Images.{Own, Images, levels_left}
use Rattle.routes.specs.Build.Reads.{Have, edited}
use Rattle.routes.specs.Build.Writes.{fresh_blocks, unused_blocks, retired_blocks, Held, Work, NewBlock, Write}
use Rattle.routes.proofs.Counts.Segments.{seg_same, cnt_split, seg_in, seg_apart}
use Rattle.routes.proofs.Keys.Nibs.{nibs_ok, nibs-length}
use Rattle.routes.proofs.Tree.Trees.{depth_few}
use Rattle.routes.proofs.Tree.Edits.{count-edit, block_edit}
use Rattle.routes.proofs.Repr.Edits.{Real, edit_behind, images_edit, levels_left_lem}
use Rattle.routes.proofs.Build.Reads.{have_images}
use Rattle.routes.proofs.Build.Blocks.{held_zero, path_down}

-- deep: the level of the route; have: how many nodes on its way were read
module _ (val : ℕ → ℕ → ℕ) (own : Own) (T W : Tree) (c : RouteEdit) (a deep have need used retired root : ℕ) (hx : c.place < 15) (hd : deep ≤ 8) (room : used + suc deep ≤ need) (few : need ≤ 72)
    (new : (e : ℕ) → c.fresh e ≡ own (fresh_at (used + e))) (k : Work val own T W need used retired root) (g : Have own W retired a have deep) where
  -- the way, the edited tree, and the own words after the turn
  abbrev ns : List ℕ
  ns = nibs 0 deep a

  abbrev u : Tree
  u = edit c 0 ns W

  abbrev own' : Own
  own' = edited c ns have deep own

  -- The new blocks are fresh ones that are not used.
  fresh_in : (e : ℕ) → e ≤ deep → (1 ≤ cnt (c.fresh e) (fresh_blocks own need)) × (1 ≤ cnt (c.fresh e) (unused_blocks own need used))
  fresh_in e l =
      let q : fresh_at used + e ≡ fresh_at (used + e) = omega arith in (
        rw (new e) (seg_in own (fresh_at 0) need (used + e) (omega arith)),
        rw (new e) (subst (λ z. 1 ≤ cnt (own z) (unused_blocks own need used)) q (seg_in own (fresh_at used) (need - used) e (omega arith))),
      )

  -- None of them is block 0.
  fresh_real : (e : ℕ) → e ≤ deep → c.fresh e ≡ 0 → ⊥
  fresh_real e l z = let i = (fresh_in e l).0 in let o = k.held.once (c.fresh e) in let j = eq-eqb (c.fresh e) 0 z in grind (arith, nat_tests)

  -- The same, for the whole way.
  all_real : Real c 0 (length ns)
  all_real e l m = fresh_real e (omega (arith, nibs-length 0 deep a))

  -- The new way has at most a node for each level.
  few_levels : depth ns u ≤ suc deep
  few_levels = omega (arith, depth_few ns u, nibs-length 0 deep a)

  -- The images are those of the edited tree.
  images_after : Images own' 0 ns u
  images_after = images_edit c 0 ns (blanked_in have deep own) W hx (nibs_ok 0 deep a) all_real (held_zero own T W need used retired root k.held) (have_images own W retired a have deep g)

  -- The levels left are the new nodes.
  pub levels_after : levels_left c 0 ns (blanked_in have deep own) ≡ depth ns u
  levels_after =
      levels_left_lem c 0 ns (blanked_in have deep own) W hx (nibs_ok 0 deep a) all_real (held_zero own T W need used retired root k.held) (have_images own W retired a have deep g) ∙ zero-add (depth ns u)

  -- Own words behind the images stay.
  pub own_behind : (i : ℕ) → fresh_at 0 ≤ i → own' i ≡ own i
  own_behind i l = edit_behind c 0 ns (blanked_in have deep own) i hx (nibs_ok 0 deep a) (omega (arith, nibs-length 0 deep a)) l ∙ grind (arith, nat_tests)

  -- The fresh blocks stay.
  fresh_same : fresh_blocks own' need ≡ fresh_blocks own need
  fresh_same = seg_same own' own (fresh_at 0) (fresh_at 0) need (λ j l. own_behind (fresh_at 0 + j) (omega arith))

  -- What was read is retired with what was retired before.
  retired_after : (b : ℕ) → cnt b (retired_blocks own' (retired + have)) ≡ cnt b (retired_blocks own retired) + path b ns W
  unfolding down
  retired_after b =
      let way : seg (λ e. block_of (down a e W)) 0 have ≡ seg own' (retired_at 0 + retired) have =
      seg_same (λ e. block_of (down a e W)) own' 0 (retired_at 0 + retired) have (λ j l. rw (zero-add j)
      (let q : retired_at 0 + retired + j ≡ retired_at (retired + j) = omega arith in rw q (sym (g.blocks j l) ∙ sym (own_behind (retired_at (retired + j)) (omega arith))))) in
      let old : retired_blocks own' retired ≡ retired_blocks own retired = seg_same own' own (retired_at 0) (retired_at 0) retired (λ j l. own_behind (retired_at 0 + j) (omega arith)) in
      let p : path b ns W ≡ cnt b (seg (λ e. block_of (down a e W)) 0 have) = path_down b W a deep 0 have g.few (λ l. rw (zero-add have) (g.end l)) (λ e l m. g.real e (omega arith)) in
      omega (arith, p, cnt_split b own' (retired_at 0) retired have, ap (cnt b) way, ap (cnt b) old)

  -- What the new way has is no longer unused.
  unused_after : (b : ℕ) → cnt b (unused_blocks own need used) ≡ cnt b (seg c.fresh 0 (depth ns u)) + cnt b (unused_blocks own' need (used + depth ns u))
  unused_after b =
      let h = few_levels in
      let q : depth ns u + (need - (used + depth ns u)) ≡ need - used = omega arith in
      let first : seg c.fresh 0 (depth ns u) ≡ seg own (fresh_at used) (depth ns u) =
      seg_same c.fresh own 0 (fresh_at used) (depth ns u) (λ j l. rw (zero-add j) (let i : fresh_at used + j ≡ fresh_at (used + j) = omega arith in rw i (new j))) in
      let rest : unused_blocks own' need (used + depth ns u) ≡ seg own (fresh_at used + depth ns u) (need - (used + depth ns u)) =
      seg_same own' own (fresh_at (used + depth ns u)) (fresh_at used + depth ns u) (need - (used + depth ns u))
      (λ j l. let i : fresh_at (used + depth ns u) + j ≡ fresh_at used + depth ns u + j = omega arith in own_behind (fresh_at (used + depth ns u) + j) (omega arith) ∙ ap own i) in
      ap (λ z. cnt b (seg own (fresh_at used) z)) (sym q) ∙ cnt_split b own (fresh_at used) (depth ns u) (need - (used + depth ns u)) ∙ sym (rw (first, rest))

  -- Blocks in hand after the turn.
  held_after : Held own' T u need (used + depth ns u) (retired + have) (c.fresh 0)
  held_after =
      let h = few_levels in
      record {
        once = λ b. rw fresh_same (k.held.once b);
        inside = λ b. rw fresh_same (k.held.inside b);
        spent = omega arith;
        top = sym (block_edit c 0 ns W);
        balance = λ b. omega (arith, k.held.balance b, count-edit c 0 ns W (nibs_ok 0 deep a) b, retired_after b, unused_after b, ap (cnt b) fresh_same);
      }

  -- The new block of each level.
  new_block : (e : ℕ) → e < depth ns u → NewBlock own' W c used e
  new_block e l =
      let h = few_levels in
      let i = fresh_in e (omega arith) in let o = k.held.once (c.fresh e) in let z = fresh_real e (omega arith) in
      record { is = new e ∙ sym (own_behind (fresh_at (used + e)) (omega arith)); real = grind (arith, nat_tests); small = k.held.inside (c.fresh e) i.0; unused = omega (arith, k.held.balance (c.fresh e)) }

  -- No two levels have the same.
  new_apart : (e f : ℕ) → e < f → f < depth ns u → c.fresh e ≡ c.fresh f → ⊥
  new_apart e f l m q =
      let h = few_levels in
      seg_apart own (fresh_at 0) need (used + e) (used + f) (λ b. omega (arith, k.held.once b)) (omega arith) (omega arith) (sym (new e) ∙ q ∙ new f)

  -- The turn.
  pub edit_turn : Write val own' T W c ns need used (retired + have) (c.fresh 0) 0 0
  edit_turn = record { held = held_after; repr = k.repr; images = images_after; blocks = new_block; apart = new_apart; words = λ e j h l. absurd (omega arith) }
