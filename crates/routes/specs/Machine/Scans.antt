-- Scan: what every processor has announced.
-- Assumes nothing.
use Rattle.std.specs.Prelude.{ℕ, ◌+◌, ◌-◌, ◌^◌, ◌<◌, Bool, cond, not, ◌&&◌, ◌==◌, nat_lt}
use Rattle.routes.specs.declared.act.Act.{Act}
use Rattle.routes.specs.declared.act.Act.TheVariants.{Load}
use Rattle.routes.specs.declared.update.scan.Scan.{Scan}
use Rattle.routes.specs.declared.update.scan.Scan.TheVariants.{ForNode, ForLimit}
use Rattle.routes.specs.declared.update.scan.GracePeriod.{GracePeriod}
use Rattle.routes.specs.declared.update.reclaim.Reclaim.TheVariants.{Head}
use Rattle.routes.specs.declared.update.recycle.Recycle.TheVariants.{Next}
use Rattle.routes.specs.declared.update.Phase.{Phase}
use Rattle.routes.specs.declared.update.Phase.TheVariants.{Scan as InScan, Reclaim as InReclaim, Recycle as InRecycle}
use Rattle.routes.specs.Memory.{Mem}
use Rattle.routes.specs.Machine.Acts.{Moved}

abbrev pub grace : ℕ → GracePeriod
grace n = record { before = n }

-- has a processor announced an epoch before a limit
abbrev pub announced_before : ℕ → ℕ → Bool
announced_before x limit = not (x == 0) && nat_lt (x - 1) limit

-- past processor q, which is not in the way of the node: on to the next one, or the node may be recycled
abbrev pub passed_for : ℕ → ℕ → ℕ → ℕ → Phase
passed_for cpus q b stamp = cond (nat_lt (q + 1) cpus) (InScan (ForNode (q + 1) b stamp)) (InRecycle (Next b (grace (stamp + 1))))

-- past processor q with this limit: on to the next one, or what was retired before the limit may go
abbrev pub passed_with : ℕ → ℕ → ℕ → Phase
passed_with cpus q limit = cond (nat_lt (q + 1) cpus) (InScan (ForLimit (q + 1) limit)) (InReclaim (Head (grace limit) 2048))

abbrev pub ScanOk : Scan → Type 0
ScanOk (ForNode q b stamp) = (q < 16) × (stamp + 1 < 2 ^ 64)
ScanOk (ForLimit q limit) = q < 16

abbrev pub scan_act : Scan → Act
scan_act (ForNode q b stamp) = Load 0 (16 + q)
scan_act (ForLimit q limit) = Load 0 (16 + q)

abbrev pub scan_after : ℕ → Scan → ℕ → Phase
scan_after cpus (ForNode q b stamp) x = cond (announced_before x (stamp + 1)) (InScan (ForNode q b stamp)) (passed_for cpus q b stamp)
scan_after cpus (ForLimit q limit) x = passed_with cpus q (cond (announced_before x limit) (x - 1) limit)

abbrev pub ScanMoved : ℕ → Scan → Mem → Phase → Mem → Type 0
ScanMoved p s m r n = Moved p (scan_act s) (scan_after m.cpus s) m r n
