-- A lookup ends within 13 turns.
use Rattle.std.proofs.Common.{◌||◌, eqb, inl, inr, arith}
use Rattle.std.proofs.lemmas.Bool.{cases_Bool}
use Rattle.words.specs.Slots.{child_of}
use Rattle.routes.specs.declared.lookup.Lookup.TheVariants.{Epoch, Announce, Root, Node, Leave}
use Rattle.routes.specs.Machine.Laws.{LookupsEnd}

-- Each turn brings it nearer to its end.
pub lookups_end_lem : LookupsEnd
lookups_end_lem (Epoch a) x ok = omega arith
lookups_end_lem (Announce a e) x ok = omega arith
lookups_end_lem (Root a e) x ok = elim (cases_Bool (eqb (child_of x) 0)) [ inl h ↦ rw h (omega arith) | inr h ↦ rw h (omega arith) ]
lookups_end_lem (Node a e d b best) x ok = elim (cases_Bool (eqb (child_of x) 0 || eqb d 8)) [
  | inl h ↦ rw h (let k = ok.1 in omega arith)
  | inr h ↦ rw h (let k = ok.1 in omega arith)
]
lookups_end_lem (Leave e best) x ok = omega arith
