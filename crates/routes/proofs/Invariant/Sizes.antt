-- A turn leaves the number of processors and of blocks as it is.
use Rattle.std.proofs.Common.{◌≡◌, ℕ, zero, suc, eqb, refl, ap, ◌∙◌, inl, inr}
use Rattle.std.proofs.lemmas.Bool.{cases_Bool}
use Rattle.routes.specs.declared.act.Act.{Act}
use Rattle.routes.specs.declared.act.Act.TheVariants.{Load, Store, Fence, Swap, Obtain, Release, Pause}
use Rattle.routes.specs.Memory.{Mem, Arrives, swapped, fenced}
use Rattle.routes.specs.Machine.Acts.{Did}
use Rattle.routes.proofs.Late.Arriving.{arrives_later}
use Rattle.routes.proofs.Late.Obtain.{obtains_some, obtains_none}

abbrev Same : Mem → Mem → Type 0
Same m n = (n.cpus ≡ m.cpus) × (n.blocks ≡ m.blocks)

-- What arrives does.
arrives_sizes : {m n : Mem} → Arrives m n → Same m n
arrives_sizes a = let l = arrives_later a in (l.cpus, l.blocks)

-- So does a swap, whether it sets the word or not.
swap_sizes : (p b w old new : ℕ) (m : Mem) → Same m (swapped p b w old new m)
swap_sizes p b w old new m = elim (cases_Bool (eqb ((fenced p m).val b w) old)) [ inl e ↦ rw e (refl, refl) | inr e ↦ rw e (refl, refl) ]

-- So does whatever is asked.
pub did_sizes : (p : ℕ) (a : Act) (m : Mem) (x : ℕ) (n : Mem) → Did p a m x n → Same m n
did_sizes p (Load b w) m x n d = arrives_sizes d.1
did_sizes p (Store b w y) m x n d = arrives_sizes d.1
did_sizes p Fence m x n d = arrives_sizes d.1
did_sizes p (Swap b w old new) m x n d = let a = arrives_sizes d.1 in let s = swap_sizes p b w old new m in (a.0 ∙ s.0, a.1 ∙ s.1)
did_sizes p Obtain m zero n d = arrives_sizes (obtains_none d).1
did_sizes p Obtain m (suc b) n d = arrives_sizes (obtains_some d).arrives
did_sizes p (Release b) m x n d = arrives_sizes d.1
did_sizes p Pause m x n d = (ap (λ z. z.cpus) d.1, ap (λ z. z.blocks) d.1)
