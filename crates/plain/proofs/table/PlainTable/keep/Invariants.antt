use Rattle.std.proofs.Common.{◌≡◌, take}
use Rattle.plain.proofs.table.PlainTable.keep.Given as goal

-- the entries before i are in their places
abbrev pub invariant-loop-i : goal.invariant-loop-i
invariant-loop-i l = take l.i l.self.entries ≡ take l.i l.entries
