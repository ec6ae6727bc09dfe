-- The turns of Publish may be taken.
use Rattle.std.proofs.Common.{◌≡◌, ℕ, Bool, List, length, arith}
use Rattle.routes.specs.declared.update.job.Job.{Job}
use Rattle.routes.specs.declared.update.publish.Publish.{Publish}
use Rattle.routes.specs.declared.update.publish.Publish.TheVariants.{FenceNodes, SetRoot, FenceRoot}
use Rattle.routes.specs.Memory.{Mem}
use Rattle.routes.specs.Routes.{Route}
use Rattle.routes.specs.Machine.Acts.{MayDo, PhaseReady}
use Rattle.routes.specs.Machine.Publishes.{publish_act}
use Rattle.routes.specs.Invariant.Ghosts.{Ghost}
use Rattle.routes.specs.Invariant.Memories.{Core}
use Rattle.routes.proofs.Invariant.Touching.{MayAsk, header_touch}

-- Each is a fence, or a store to the header.
publish_may : (m : Mem) (h : ℕ) (locked : Bool) (g : Ghost) (rs : List Route) (t : ℕ) → Core m h locked g rs t → MayAsk m h → (j : Job) (s : Publish) → MayDo m h (publish_act j s)
publish_may m h locked g rs t c a j FenceNodes = (a.once, a.turn, a.inside)
publish_may m h locked g rs t c a j SetRoot = header_touch c a 1 (omega arith)
publish_may m h locked g rs t c a j FenceRoot = (a.once, a.turn, a.inside)

-- And the own words are 4,096.
pub publish_ready : (m : Mem) (h : ℕ) (locked : Bool) (g : Ghost) (rs : List Route) (t : ℕ) → Core m h locked g rs t → MayAsk m h → (j : Job) (s : Publish) (o : List ℕ) → length o ≡ 4096 → PhaseReady m h (publish_act j s) (Unit {0}) o
publish_ready m h locked g rs t c a j s o r = record { ok = tt; room = r; may = publish_may m h locked g rs t c a j s }
