-- Publish: the new tree takes the place of the old one.
-- Assumes nothing.
use Rattle.std.specs.Prelude.{ℕ}
use Rattle.routes.specs.declared.act.Act.{Act}
use Rattle.routes.specs.declared.act.Act.TheVariants.{Store, Fence}
use Rattle.routes.specs.declared.update.job.Job.{Job}
use Rattle.routes.specs.declared.update.publish.Publish.{Publish}
use Rattle.routes.specs.declared.update.publish.Publish.TheVariants.{FenceNodes, SetRoot, FenceRoot}
use Rattle.routes.specs.declared.update.retire.Retire.TheVariants.{Epoch}
use Rattle.routes.specs.declared.update.Phase.{Phase}
use Rattle.routes.specs.declared.update.Phase.TheVariants.{Publish as InPublish, Retire as InRetire}
use Rattle.routes.specs.Memory.{Mem}
use Rattle.routes.specs.Machine.Acts.{Moved}

abbrev pub publish_act : Job → Publish → Act
publish_act j FenceNodes = Fence
publish_act j SetRoot = Store 0 1 j.root
publish_act j FenceRoot = Fence

abbrev pub publish_after : Publish → ℕ → Phase
publish_after FenceNodes x = InPublish SetRoot
publish_after SetRoot x = InPublish FenceRoot
publish_after FenceRoot x = InRetire Epoch

abbrev pub PublishMoved : ℕ → Job → Publish → Mem → Phase → Mem → Type 0
PublishMoved p j s m r n = Moved p (publish_act j s) (publish_after s) m r n
