-- A turn under guard: it was taken, or nothing was done.
-- Assumes nothing.
use Rattle.std.specs.Prelude.{◌≡◌, ℕ, List, Ok, Err, Option, Result}
use Rattle.routes.specs.declared.Answer.{Answer}
use Rattle.routes.specs.declared.Cpu.{Cpu}
use Rattle.routes.specs.Memory.{Mem}
use Rattle.routes.specs.Machine.Cpus.{Stepped}
use Rattle.guard.specs.declared.ready.NotAllowed.{NotAllowed}

abbrev pub GuardedStep : ℕ → Mem → Cpu → List ℕ → Result (Option Answer) NotAllowed → Mem → Cpu → List ℕ → Type 0
GuardedStep p m c o (Ok r) n d u = Stepped p m c o r n d u
GuardedStep p m c o (Err e) n d u = (n ≡ m) × (d ≡ c) × (u ≡ o)
