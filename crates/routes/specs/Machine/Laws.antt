-- What is promised of the machines.
-- Assumes nothing.
use Rattle.std.specs.Prelude.{ℕ, ◌-◌, ◌<◌}
use Rattle.routes.specs.declared.lookup.Lookup.{Lookup}
use Rattle.routes.specs.declared.lookup.Lookup.TheVariants.{Epoch, Announce, Root, Node, Leave}
use Rattle.routes.specs.Machine.Lookups.{LookupOk, lookup_after}
use Rattle.routes.specs.Machine.Nexts.{LookupNext}
use Rattle.std.specs.declared.ops.ControlFlow.TheVariants.{Continue, Break}

-- how many turns a lookup still has at most: 13 from its beginning
abbrev pub turns_left : Lookup → ℕ
turns_left (Epoch a) = 13
turns_left (Announce a e) = 12
turns_left (Root a e) = 11
turns_left (Node a e d b best) = 10 - d
turns_left (Leave e best) = 1

abbrev pub turns_after : LookupNext → ℕ
turns_after (Continue l) = turns_left l
turns_after (Break a) = 0

-- Each turn of a lookup brings it nearer to its end, whatever the memory replies.
abbrev pub LookupsEnd : Type 0
LookupsEnd = (l : Lookup) (reply : ℕ) → LookupOk l → turns_after (lookup_after l reply) < turns_left l
