-- Retire, reclaim and finish: replaced nodes enter limbo, and the oldest of limbo go back to the pool.
-- Assumes nothing.
use Rattle.std.specs.Prelude.{◌≡◌, ℕ, suc, ◌-◌, ◌<◌, ◌≤◌, false, cond, List, [], ◌∷◌, ◌≢◌, nat_lt}
use Rattle.own.specs.Layout.{words_of, retired_at}
use Rattle.routes.specs.declared.Answer.TheVariants.{Done}
use Rattle.routes.specs.declared.update.job.Job.{Job}
use Rattle.routes.specs.declared.update.finish.Finish.{Finish}
use Rattle.routes.specs.declared.update.finish.Finish.TheVariants.{Unused, Unlock}
use Rattle.routes.specs.declared.update.reclaim.Reclaim.{Reclaim}
use Rattle.routes.specs.declared.update.reclaim.Reclaim.TheVariants.{Head, RetiredAt, Next, SetHead, SetTail, Release}
use Rattle.routes.specs.declared.update.retire.Retire.{Retire}
use Rattle.routes.specs.declared.update.retire.Retire.TheVariants.{Epoch, SetEpoch, SetAt, SetNext, Tail, SetHead as ToHead, Link, SetTail as ToTail, Fence}
use Rattle.routes.specs.Routes.{Now}
use Rattle.routes.specs.Counts.Counts.{cnt}
use Rattle.routes.specs.Invariant.Ghosts.{Ghost, Row, still, heads, calm}
use Rattle.routes.specs.Invariant.Memories.{Chain, last_from}
use Rattle.routes.specs.Invariant.Readers.{Settled}
use Rattle.routes.specs.Invariant.Holders.{Has, Oldest, rest_blocks, replaced_blocks}

-- the update is done, and this is loose; the rest of its fresh blocks is not used
pub record Retires (g : Ghost) (o : List ℕ) (n : Now) (j : Job) (row : Row) (loose : List ℕ) : Type 0 where
  pub has : Has g row loose (rest_blocks o j)
  pub done : Settled Done n
  pub spent : j.used ≤ j.got
  pub few : j.got ≤ 72
  pub short : j.retired ≤ 72

-- block number i of those replaced
abbrev pub replaced_at : List ℕ → ℕ → ℕ
replaced_at o i = words_of o (retired_at i)

-- the first i of those replaced have their stamp and their link
abbrev pub LinkedTo : (ℕ → ℕ → ℕ) → List ℕ → ℕ → ℕ → ℕ → Type 0
LinkedTo v o many e i = (k : ℕ) → k < i → (v (replaced_at o k) 31 ≡ e) × (v (replaced_at o k) 32 ≡ cond (nat_lt (suc k) many) (replaced_at o (suc k)) 0)

-- all that is loose was retired in epoch e
abbrev pub StampedIn : Ghost → ℕ → Type 0
StampedIn g e = (b : ℕ) → 1 ≤ cnt b g.loose → g.stamps b ≡ e

-- what is loose is a chain of its own, stamped before the epoch that the holder sees
pub record Joins (v : ℕ → ℕ → ℕ) (g : Ghost) (o : List ℕ) (n : Now) (j : Job) : Type 0 where
  pub retires : Retires g o n j calm (replaced_blocks o j)
  pub whole : g.torn ≡ false
  pub linked : Chain v (replaced_at o 0) (replaced_blocks o j)
  pub stamped : (b : ℕ) → 1 ≤ cnt b g.loose → (v b 31 ≡ g.stamps b) × (g.stamps b < v 0 2)
  pub some : 1 ≤ j.retired

-- replaced node i is next, in epoch e, which is raised
pub record Stamps (v : ℕ → ℕ → ℕ) (g : Ghost) (o : List ℕ) (n : Now) (j : Job) (i e : ℕ) : Type 0 where
  pub retires : Retires g o n j calm (replaced_blocks o j)
  pub whole : g.torn ≡ false
  pub stamps : StampedIn g e
  pub raised : v 0 2 ≡ suc e
  pub here : i < j.retired
  pub linked : LinkedTo v o j.retired e i

unfoldable pub RetireFacts : (ℕ → ℕ → ℕ) → Ghost → List ℕ → Now → Job → Retire → Type 0
RetireFacts v g o n j Epoch = Retires g o n j still (replaced_blocks o j) × (g.torn ≡ false) × StampedIn g (v 0 2)
RetireFacts v g o n j (SetEpoch e) = Retires g o n j still (replaced_blocks o j) × (g.torn ≡ false) × StampedIn g e × (v 0 2 ≡ e)
RetireFacts v g o n j (SetAt i e) = Stamps v g o n j i e
RetireFacts v g o n j (SetNext i e) = Stamps v g o n j i e × (v (replaced_at o i) 31 ≡ e)
RetireFacts v g o n j Tail = Joins v g o n j
RetireFacts v g o n j ToHead = Joins v g o n j × (g.chain ≡ [])
RetireFacts v g o n j (Link t) = Joins v g o n j × (t ≡ last_from 0 g.chain) × (t ≢ 0)
RetireFacts v g o n j ToTail = Retires g o n j calm [] × (1 ≤ j.retired) × (replaced_at o (j.retired - 1) ≡ last_from 0 g.chain)
RetireFacts v g o n j Fence = Retires g o n j calm [] × (g.torn ≡ false)

-- nothing is loose, and late are LIMBO_HEAD and LIMBO_TAIL only
pub record Reclaims (g : Ghost) (o : List ℕ) (n : Now) (j : Job) : Type 0 where
  pub retires : Retires g o n j heads []
  pub whole : g.torn ≡ false

unfoldable pub ReclaimFacts : (ℕ → ℕ → ℕ) → Ghost → List ℕ → Now → Job → Reclaim → Type 0
ReclaimFacts v g o n j (Head grace left) = Reclaims g o n j
ReclaimFacts v g o n j (RetiredAt grace left b) = Reclaims g o n j × Oldest g b
ReclaimFacts v g o n j (Next grace left b) = Reclaims g o n j × Oldest g b × (g.stamps b < grace.before)
ReclaimFacts v g o n j (SetHead grace left b next) = Reclaims g o n j × Oldest g b × (g.stamps b < grace.before) × (v b 32 ≡ next)
ReclaimFacts v g o n j (SetTail grace left b) = Retires g o n j heads (b ∷ []) × (g.chain ≡ []) × (g.stamps b < grace.before)
ReclaimFacts v g o n j (Release grace left b) = Retires g o n j heads (b ∷ []) × (g.torn ≡ false) × (g.stamps b < grace.before)

unfoldable pub FinishFacts : Ghost → List ℕ → Now → Job → Finish → Type 0
FinishFacts g o n j Unused = Reclaims g o n j × (j.used < j.got)
FinishFacts g o n j Unlock = Reclaims g o n j × (j.got ≤ j.used)
