use Rattle.std.proofs.Common.{◌≡◌, ◌+◌}
use Rattle.own.specs.Edits.{point_all, levels_all}
use Rattle.own.proofs.edit.point_all.Given as goal

abbrev pub invariant-loop-d : goal.invariant-loop-d
invariant-loop-d l = (point_all l.own l.a l.first l.d ≡ point_all l.initial.own l.a l.first l.deep)
    × (levels_all l.own l.a l.first l.d l.levels ≡ levels_all l.initial.own l.a l.first l.deep (l.deep + 1))
