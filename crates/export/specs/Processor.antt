-- What the calls that begin something do.
-- Assumes nothing.
use Rattle.std.specs.Prelude.{◌≡◌, ℕ, List}
use Rattle.routes.specs.declared.Ask.TheVariants.{Find, Change}
use Rattle.export.specs.Calls.{Outcome}
use Rattle.export.specs.Begins.{Begun, BegunWith, may_begin, may_update}

pub record LookupBegun (a : ℕ) (o : List ℕ) (r : Outcome) (n : List ℕ) : Type 0 where
  pub may : r ≡ may_begin o
  pub begun : Begun (Find a) o r n

pub record UpdateBegun (size : ℕ) (w o u : List ℕ) (r : Outcome) (n v : List ℕ) : Type 0 where
  pub may : r ≡ may_update o u w
  pub begun : Begun (Change size) o r n
  pub noted : BegunWith (Change size) w u r v
