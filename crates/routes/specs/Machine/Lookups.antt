-- A lookup as a machine: the ranges of its registers, what it asks, and what follows by the reply.
-- Assumes nothing.
use Rattle.std.specs.Prelude.{ℕ, ◌+◌, ◌^◌, ◌<◌, ◌≤◌, cond, ◌||◌, ◌==◌}
use Rattle.words.specs.Address.{nib}
use Rattle.words.specs.Slots.{child_of, fit_of}
use Rattle.routes.specs.declared.Answer.{Answer}
use Rattle.routes.specs.declared.Answer.TheVariants.{Nothing}
use Rattle.routes.specs.declared.act.Act.{Act}
use Rattle.routes.specs.declared.act.Act.TheVariants.{Load, Swap}
use Rattle.routes.specs.declared.lookup.Lookup.{Lookup}
use Rattle.routes.specs.declared.lookup.Lookup.TheVariants.{Epoch, Announce, Root, Node, Leave}
use Rattle.routes.specs.Memory.{Mem}
use Rattle.routes.specs.Tree.Walks.{better}
use Rattle.routes.specs.Machine.Acts.{Moved}
use Rattle.routes.specs.Machine.Nexts.{LookupNext}
use Rattle.std.specs.declared.ops.ControlFlow.TheVariants.{Continue, Break}

abbrev pub LookupOk : Lookup → Type 0
LookupOk (Epoch a) = Unit {0}
LookupOk (Announce a e) = e + 1 < 2 ^ 64
LookupOk (Root a e) = e + 1 < 2 ^ 64
LookupOk (Node a e d b best) = (e + 1 < 2 ^ 64) × (d ≤ 8)
LookupOk (Leave e best) = e + 1 < 2 ^ 64

abbrev pub lookup_act : ℕ → Lookup → Act
lookup_act p (Epoch a) = Load 0 2
lookup_act p (Announce a e) = Swap 0 (16 + p) 0 (e + 1)
lookup_act p (Root a e) = Load 0 1
lookup_act p (Node a e d b best) = Load b (nib d a)
lookup_act p (Leave e best) = Swap 0 (16 + p) (e + 1) 0

abbrev pub after_root : ℕ → ℕ → ℕ → LookupNext
after_root a e b = cond (b == 0) (Continue (Leave e Nothing)) (Continue (Node a e 0 b Nothing))

abbrev pub after_slot : ℕ → ℕ → ℕ → ℕ → Answer → LookupNext
after_slot a e d child best = cond (child == 0 || d == 8) (Continue (Leave e best)) (Continue (Node a e (d + 1) child best))

abbrev pub lookup_after : Lookup → ℕ → LookupNext
lookup_after (Epoch a) x = Continue (Announce a x)
lookup_after (Announce a e) x = Continue (Root a e)
lookup_after (Root a e) x = after_root a e (child_of x)
lookup_after (Node a e d b best) x = after_slot a e d (child_of x) (better d (fit_of x) best)
lookup_after (Leave e best) x = Break best

abbrev pub LookupMoved : ℕ → Lookup → Mem → LookupNext → Mem → Type 0
LookupMoved p l m r n = Moved p (lookup_act p l) (lookup_after l) m r n
