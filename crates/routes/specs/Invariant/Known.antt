-- All that is known between two turns, and the registers and own words as `turns` has them.
-- Assumes nothing.
use Rattle.std.specs.Prelude.{◌≡◌, ℕ, ◌*◌, List, ◌∷◌, length, take, drop, Some, None, Option, slice_index_or}
use Rattle.routes.specs.declared.Answer.{Answer}
use Rattle.routes.specs.declared.Cpu.{Cpu}
use Rattle.routes.specs.declared.Piece.{Piece}
use Rattle.routes.specs.declared.work.Work.TheVariants.{Idle}
use Rattle.routes.specs.Memory.{Mem}
use Rattle.routes.specs.Routes.{Event, Told, Turned, State, Run, Explained}
use Rattle.routes.specs.Invariant.Ages.{Aged}
use Rattle.routes.specs.Invariant.Ghosts.{Ghost}
use Rattle.routes.specs.Invariant.Inv.{Lock, Cpus, Inv}

-- a processor that has nothing under way
abbrev pub idle_cpu : Cpu
idle_cpu = record { work = Idle }

-- the own words of processor q
unfoldable pub part_of : ℕ → List ℕ → List ℕ
part_of q own = take 4096 (drop (q * 4096) own)

abbrev pub cpus_of : List Cpu → List ℕ → Cpus
cpus_of cs own = record { work = λ q. (slice_index_or cs q idle_cpu).work; own = λ q. part_of q own }

-- all idle, with these own words
abbrev pub idle_cpus : (ℕ → List ℕ) → Cpus
idle_cpus own = record { work = λ q. Idle; own = own }

-- what is seen of a turn of p, and of what it tells in it
abbrev pub seen_of : ℕ → Option Answer → List Event → List Event
seen_of p None es = Turned p ∷ es
seen_of p (Some a) es = Told p a ∷ Turned p ∷ es

-- what was seen is explained, the invariant holds, and nothing under way is too old
pub record Known (m : Mem) (es : List Event) (t : ℕ) (c : Cpus) : Type 0 where
  pub lock : Lock
  pub ghosts : Ghost
  pub trail : ℕ → List ℕ
  pub state : State
  pub run : Run m.cpus m.blocks es state
  pub inv : Inv m lock ghosts trail state t c
  pub aged : Aged m.cpus state c.work

-- the same of the registers, own words and pieces that `turns` was lent
pub record Between (m : Mem) (es : List Event) (t : ℕ) (cs : List Cpu) (own : List ℕ) (ps : List Piece) : Type 0 where
  pub known : Known m es t (cpus_of cs own)
  pub registers : length cs ≡ m.cpus
  pub words : length own ≡ 4096 * m.cpus
  pub pieces : length ps ≡ 8

-- what a turn leads to: what was seen is explained, also without what was told, and all is known again
pub record After (n : Mem) (es : List Event) (t : ℕ) (c : Cpus) (p : ℕ) (told : Option Answer) : Type 0 where
  pub known : Known n (seen_of p told es) t c
  pub turned : Explained n.cpus n.blocks (Turned p ∷ es)
