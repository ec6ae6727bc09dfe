-- What comes next in an update, with its facts.
use Rattle.std.proofs.Common.{◌≡◌, ℕ, Bool, true, false, cond, List, refl}
use Rattle.routes.specs.declared.update.job.Job.{Job}
use Rattle.routes.specs.declared.update.build.Build.{Build}
use Rattle.routes.specs.declared.update.publish.Publish.{Publish}
use Rattle.routes.specs.declared.update.retire.Retire.{Retire}
use Rattle.routes.specs.declared.update.Phase.{Phase}
use Rattle.routes.specs.declared.update.Phase.TheVariants.{Build as InBuild, Publish as InPublish, Retire as InRetire}
use Rattle.routes.specs.Routes.{Route, Now}
use Rattle.routes.specs.Invariant.Ghosts.{Ghost}
use Rattle.routes.specs.Invariant.Registers.{holds_in, passed_in}
use Rattle.routes.specs.Invariant.Writers.{Hall, PhaseFacts}
use Rattle.routes.specs.Machine.Nexts.{UpdateNext}
use Rattle.std.specs.declared.ops.ControlFlow.TheVariants.{Continue}

-- it goes on in a phase, and the facts of that phase hold
pub record GoesOn (v : ℕ → ℕ → ℕ) (hall : Hall) (g : Ghost) (o : List ℕ) (rs : List Route) (n : Now) (next : UpdateNext) : Type 0 where
  pub job : Job
  pub phase : Phase
  pub is : next ≡ Continue (job, phase)
  pub facts : PhaseFacts v hall g o rs n job phase
  -- it keeps the lock, and no scan has passed anybody
  pub holds' : holds_in phase ≡ true
  pub unpassed : (cpus : ℕ) → (passed_in cpus phase).many ≡ 0

module _ (v : ℕ → ℕ → ℕ) (hall : Hall) (g : Ghost) (o : List ℕ) (rs : List Route) (n : Now) where
  -- To a state of Build.
  pub on_build : (j : Job) (s : Build) → PhaseFacts v hall g o rs n j (InBuild s) → GoesOn v hall g o rs n (Continue (j, InBuild s))
  unfolding holds_in passed_in
  on_build j s f = record { job = j; phase = InBuild s; is = refl; facts = f; holds' = refl; unpassed = λ cpus. refl }

  -- To a state of Publish.
  pub on_publish : (j : Job) (s : Publish) → PhaseFacts v hall g o rs n j (InPublish s) → GoesOn v hall g o rs n (Continue (j, InPublish s))
  unfolding holds_in passed_in
  on_publish j s f = record { job = j; phase = InPublish s; is = refl; facts = f; holds' = refl; unpassed = λ cpus. refl }

  -- To a state of Retire, by a test.
  pub on_retire : (j : Job) (b : Bool) (x y : Retire) → PhaseFacts v hall g o rs n j (cond b (InRetire x) (InRetire y)) → GoesOn v hall g o rs n (Continue (j, cond b (InRetire x) (InRetire y)))
  unfolding holds_in passed_in
  on_retire j true x y f = record { job = j; phase = InRetire x; is = refl; facts = f; holds' = refl; unpassed = λ cpus. refl }
  on_retire j false x y f = record { job = j; phase = InRetire y; is = refl; facts = f; holds' = refl; unpassed = λ cpus. refl }

  -- By a test.
  pub on_if : (b : Bool) (x y : UpdateNext) → (b ≡ true → GoesOn v hall g o rs n x) → (b ≡ false → GoesOn v hall g o rs n y) → GoesOn v hall g o rs n (cond b x y)
  on_if true x y f h = f refl
  on_if false x y f h = h refl

  -- The facts of a phase, by a test.
  pub facts_if : (j : Job) (b : Bool) (x y : Phase) → (b ≡ true → PhaseFacts v hall g o rs n j x) → (b ≡ false → PhaseFacts v hall g o rs n j y) → PhaseFacts v hall g o rs n j (cond b x y)
  facts_if j true x y f h = f refl
  facts_if j false x y f h = h refl
