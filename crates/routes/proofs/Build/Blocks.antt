-- Blocks in hand while a change is built.
use Rattle.std.proofs.Common.{◌≡◌, ℕ, zero, suc, ◌+◌, ◌-◌, ◌^◌, ◌<◌, ◌≤◌, eqb, subst, add-zero, arith}
use Rattle.std.proofs.lemmas.Bool.Decides.{nat_tests}
use Rattle.own.specs.Layout.{fresh_at, retired_at}
use Rattle.routes.specs.Counts.Counts.{bit, cnt, seg}
use Rattle.routes.specs.Keys.Keys.{nibs}
use Rattle.routes.specs.Tree.Trees.{Tree, none, block_of, count, path}
use Rattle.routes.specs.Tree.Walks.{down}
use Rattle.routes.specs.Repr.Images.{Own}
use Rattle.routes.specs.Build.Writes.{fresh_blocks, unused_blocks, retired_blocks, Held}
use Rattle.routes.proofs.Counts.Segments.{seg_same}
use Rattle.routes.proofs.Tree.Trees.{top_is, path_none}

-- A change begins to be built with the published tree.
pub held_begin : (own : Own) (T : Tree) (need root : ℕ) → ((b : ℕ) → bit (eqb b 0) + count b T + cnt b (fresh_blocks own need) ≤ 1) → ((b : ℕ) → 1 ≤ cnt b (fresh_blocks own need) → b < 2 ^ 20) →
    root ≡ block_of T → Held own T T need 0 0 root
unfolding seg cnt
held_begin own T need root once inside e = record {
  once = once;
  inside = inside;
  spent = omega arith;
  top = e;
  balance = λ b. let q : need - 0 ≡ need = omega arith in rw q (omega arith);
}

-- Block 0 is none of the tree's.
pub held_zero : (own : Own) (T W : Tree) (need used retired root : ℕ) → Held own T W need used retired root → count 0 W ≡ 0
held_zero own T W need used retired root k = let a = k.balance 0 in let b = k.once 0 in grind (arith, nat_tests)

-- Own words elsewhere do not matter.
pub held_stays : (own own' : Own) (T W : Tree) (need used retired root : ℕ) → need ≤ 72 → ((i : ℕ) → fresh_at 0 ≤ i → i < retired_at retired → own' i ≡ own i) →
    Held own T W need used retired root → Held own' T W need used retired root
held_stays own own' T W need used retired root few s k =
    let l = k.spent in
    let all : fresh_blocks own' need ≡ fresh_blocks own need = seg_same own' own 320 320 need (λ j l. s (320 + j) (omega arith) (omega arith)) in
    let old : retired_blocks own' retired ≡ retired_blocks own retired = seg_same own' own 392 392 retired (λ j l. s (392 + j) (omega arith) (omega arith)) in
    let rest : unused_blocks own' need used ≡ unused_blocks own need used =
    seg_same own' own (320 + used) (320 + used) (need - used) (λ j l. s (320 + used + j) (omega arith) (omega arith)) in
    record { once = λ b. rw all (k.once b); inside = λ b. rw all (k.inside b); spent = k.spent; top = k.top; balance = λ b. rw (all, old, rest) (k.balance b) }

-- The blocks that were read on a way are those of the way.
pub path_down : (b : ℕ) (t : Tree) (a k d m : ℕ) → m ≤ suc k → (m ≤ k → down a (d + m) t ≡ none) → ((e : ℕ) → d ≤ e → e < d + m → block_of (down a e t) ≡ 0 → ⊥) →
    path b (nibs d k a) (down a d t) ≡ cnt b (seg (λ e. block_of (down a e t)) d m)
unfolding path nibs down cnt seg
path_down b t a k d zero l n r = rw (subst (λ y. down a y t ≡ none) (add-zero d) (n (omega arith))) (path_none b (nibs d k a))
path_down b t a zero d (suc m) l n r = let q : m ≡ 0 = omega arith in rw q (omega (arith, top_is b (down a d t) (r d (omega arith) (omega arith))))
path_down b t a (suc k) d (suc m) l n r =
    omega (
      arith,
      top_is b (down a d t) (r d (omega arith) (omega arith)),
      path_down b t a k (suc d) m (omega arith) (λ h. let q : d + suc m ≡ suc d + m = omega arith in subst (λ y. down a y t ≡ none) q (n (omega arith))) (λ e x y. r e (omega arith) (omega arith)),
    )
