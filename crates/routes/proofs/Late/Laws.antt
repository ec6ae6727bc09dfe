-- The promises on late stores.
use Rattle.routes.specs.Late.Laws.{ArrivesUnseen, FenceArrives, OwnStores, NoneLate}
use Rattle.routes.proofs.Late.Sees.{sees_none, sees-stored}
use Rattle.routes.proofs.Late.Arriving.{arrives_sees}
use Rattle.routes.proofs.Late.Fence.{fence_arrives_lem, fence_empties}
use Rattle.routes.proofs.Late.View.{view_arrives, view-stored}

-- Who alone has late stores does not see them arrive.
pub arrives_unseen_lem : ArrivesUnseen
arrives_unseen_lem h m n only a = ((λ b w. arrives_sees h b w a only), view_arrives h a only)

-- A fence is arriving.
pub fence_is_arriving : FenceArrives
fence_is_arriving p m = (fence_arrives_lem p m, fence_empties p m)

-- To its own processor a store is one to plain memory.
pub own_stores_lem : OwnStores
own_stores_lem p b w x m = ((λ q c v. sees-stored p b w x q c v m), view-stored p b w x m)

-- Who has no late stores sees what is there.
pub none_late : NoneLate
none_late = sees_none
