-- The invariant: what holds between any two turns, but for ages.
-- Assumes nothing.
use Rattle.std.specs.Prelude.{◌≡◌, ℕ, ◌<◌, ◌≤◌, Bool, ◌&&◌, List, length, ◌==◌}
use Rattle.routes.specs.declared.work.Work.{Work}
use Rattle.routes.specs.declared.work.Work.TheVariants.{Idle}
use Rattle.routes.specs.Memory.{Mem, set_at}
use Rattle.routes.specs.Routes.{State}
use Rattle.routes.specs.Counts.Counts.{cnt}
use Rattle.routes.specs.Late.View.{view}
use Rattle.routes.specs.Run.Nows.{OneLeader}
use Rattle.routes.specs.Invariant.Ghosts.{Ghost, limbo}
use Rattle.routes.specs.Invariant.Memories.{Core}
use Rattle.routes.specs.Invariant.Readers.{Reader}
use Rattle.routes.specs.Invariant.Registers.{holds, passed}
use Rattle.routes.specs.Invariant.Writers.{Writer, hall_of}

-- who has the lock, or had it last
pub record Lock : Type 0 where
  pub who : ℕ
  pub held : Bool

-- the registers and the own words of every processor
pub record Cpus : Type 0 where
  pub work : ℕ → Work
  pub own : ℕ → List ℕ

-- those of p are new
abbrev pub set_cpu : ℕ → Work → List ℕ → Cpus → Cpus
set_cpu p work own c = record { work = set_at p work c.work; own = set_at p own c.own }

-- m the memory, k the lock, g the ghosts, trail what lookups will still touch, s what was seen comes to, t the turns taken, c registers and own words
pub record Inv (m : Mem) (k : Lock) (g : Ghost) (trail : ℕ → List ℕ) (s : State) (t : ℕ) (c : Cpus) : Type 0 where
  pub core : Core m k.who k.held g s.table t
  pub readers : (q : ℕ) → Reader m g (trail q) q (c.work q) (c.own q) (s.now' q)
  pub leads : OneLeader k.held k.who s
  pub holding : (q : ℕ) → holds (c.work q) ≡ (k.held && q == k.who)
  pub outside : (q : ℕ) → m.cpus ≤ q → c.work q ≡ Idle
  pub room : (q : ℕ) → q < m.cpus → length (c.own q) ≡ 4096
  pub writer : Writer (view k.who m) (hall_of m) g (c.own k.who) s.table (s.now' k.who) (c.work k.who)
  -- what a scan has passed with its limit is on nobody's trail that it passed
  pub scanned : (q b : ℕ) → q < (passed m.cpus (c.work k.who)).many → 1 ≤ cnt b (trail q) → 1 ≤ limbo g b → (passed m.cpus (c.work k.who)).limit ≤ g.stamps b
