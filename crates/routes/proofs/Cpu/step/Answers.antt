use Rattle.std.proofs.Common.{◌≡◌, ℕ, List, Option, subst}
use Rattle.routes.specs.declared.Answer.{Answer}
use Rattle.routes.specs.declared.Cpu.{Cpu}
use Rattle.routes.specs.Memory.{Mem}
use Rattle.routes.specs.Machine.Cpus.{Stepped}
use Rattle.routes.proofs.Cpu.step.Goals as goal

-- A turn on the same own words is the same turn.
same : {p : ℕ} {m n : Mem} {c d : Cpu} {o v u : List ℕ} {r : Option Answer} → v ≡ o → Stepped p m c v r n d u → Stepped p m c o r n d u
same {p} {m} {n} {c} {d} {u = u} {r = r} e s = subst (λ z. Stepped p m c z r n d u) e s

pub returns-clause-stepped : goal.returns-clause-stepped
returns-clause-stepped g c = same c.in-Some.ensures.cases.same c.take_turn.ensures.stepped
