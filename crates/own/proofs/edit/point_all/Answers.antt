use Rattle.std.proofs.Common.{◌≡◌, ℕ, suc, ◌+◌, ◌-◌, List, ◌∙◌, arith, rules}
use Rattle.own.specs.Edits.{pointed, levels_left, point_all, levels_all}
use Rattle.own.proofs.Edited.{levels_between}
use Rattle.own.proofs.edit.point_all.Goals as goal

-- Once level e points, what the rest makes of the words is what it was to be.
words_on : (o s : List ℕ) (a first d e : ℕ) → d ≡ suc e → s ≡ pointed o a first e → point_all s a first e ≡ point_all o a first d
unfolding point_all
words_on o s a first d e p q = rw (p, q)

-- And how many levels it leaves is what it was to be.
levels_on : (o s : List ℕ) (a first d e lv r : ℕ) → d ≡ suc e → s ≡ pointed o a first e → r ≡ levels_left o e lv → levels_all s a first e r ≡ levels_all o a first d lv
unfolding levels_all
levels_on o s a first d e lv r p q t = rw (p, q, t)

-- At level 0 the words are done.
words_end : (o : List ℕ) (a first d : ℕ) → d ≡ 0 → o ≡ point_all o a first d
unfolding point_all
words_end o a first d e = rw e

-- At level 0 the levels are counted.
levels_end : (o : List ℕ) (a first d lv : ℕ) → d ≡ 0 → lv ≡ levels_all o a first d lv
unfolding levels_all
levels_end o a first d lv e = rw e

pub loop-d-preserved : goal.loop-d-preserved
loop-d-preserved c = (
  words_on c.loop-d.own c.point-levels.new.own _ _ c.loop-d.d (c.loop-d.d - 1) (omega arith) (search rules) ∙ c.loop-d.invariant.0,
  levels_on c.loop-d.own c.point-levels.new.own _ _ c.loop-d.d (c.loop-d.d - 1) c.loop-d.levels c.point-levels.result (omega arith) (search rules) (search rules) ∙ c.loop-d.invariant.1,
)

pub returns : goal.returns
returns c =
    let left = levels_end c.loop-d.own c.args.a c.args.first c.loop-d.d c.loop-d.levels (omega arith) ∙ c.loop-d.invariant.1 in
    let between = levels_between c.args.own.now c.args.a c.args.first c.args.deep (c.args.deep + 1) (c.args.deep + 1) (omega arith) (omega arith) (omega arith) in
    record { after = words_end _ _ _ _ (omega arith) ∙ c.loop-d.invariant.0; left = left; some = omega arith; few = omega arith }
