use Rattle.std.proofs.Common.{◌≡◌, length, drop}
use Rattle.script.specs.Pieces.{parts, gathered, change_of}
use Rattle.script.proofs.pieces.read_change.Given as goal

-- what is left, gathered after the pieces so far, gives the whole
abbrev pub invariant-loop-part : goal.invariant-loop-part
invariant-loop-part l = gathered l.change (drop (length l.yielded) (parts l.text)) ≡ change_of l.text
