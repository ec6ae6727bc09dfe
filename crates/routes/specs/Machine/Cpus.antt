-- What a processor does, as one pure function: what its next turn asks, and by the reply what it has then and what it tells.
-- Assumes nothing.
use Rattle.std.specs.Prelude.{◌≡◌, ℕ, List, length, None, Option}
use Rattle.routes.specs.declared.Answer.{Answer}
use Rattle.routes.specs.declared.Ask.{Ask}
use Rattle.routes.specs.declared.Cpu.{Cpu}
use Rattle.routes.specs.declared.Piece.{Piece}
use Rattle.routes.specs.declared.act.Act.{Act}
use Rattle.routes.specs.declared.act.Act.TheVariants.{Pause}
use Rattle.routes.specs.declared.work.Work.{Work}
use Rattle.routes.specs.declared.work.Work.TheVariants.{Idle, Lookup, Update}
use Rattle.routes.specs.Memory.{Mem}
use Rattle.routes.specs.Machine.Acts.{MayDo, Did}
use Rattle.routes.specs.Machine.Begins.{begin_work, begin_words, AskFits}
use Rattle.routes.specs.Machine.Lookups.{LookupOk, lookup_act, lookup_after}
use Rattle.routes.specs.Machine.Updates.{UpdateOk, update_act, update_after, update_words}
use Rattle.routes.specs.Machine.Nexts.{LookupNext, UpdateNext}
use Rattle.std.specs.declared.ops.ControlFlow.TheVariants.{Continue, Break}
use Rattle.std.specs.ControlFlow.{break_value}

-- ranges of registers
abbrev pub WorkOk : Work → List ℕ → Type 0
WorkOk Idle o = Unit {0}
WorkOk (Lookup l) o = LookupOk l
WorkOk (Update j s) o = UpdateOk j s o

-- what the next turn asks
abbrev pub act : ℕ → Work → List ℕ → Act
act p Idle o = Pause
act p (Lookup l) o = lookup_act p l
act p (Update j s) o = update_act p j s o

abbrev pub work_of_lookup : LookupNext → Work
work_of_lookup (Continue l) = Lookup l
work_of_lookup (Break a) = Idle

abbrev pub work_of_update : UpdateNext → Work
work_of_update (Continue n) = Update n.0 n.1
work_of_update (Break a) = Idle

-- by the number of processors and the reply: what is under way then, the own words, and what is told
abbrev pub work_after : ℕ → Work → List ℕ → ℕ → Work
work_after cpus Idle o x = Idle
work_after cpus (Lookup l) o x = work_of_lookup (lookup_after l x)
work_after cpus (Update j s) o x = work_of_update (update_after cpus j s o x)

abbrev pub words_after : Work → List ℕ → ℕ → List ℕ
words_after Idle o x = o
words_after (Lookup l) o x = o
words_after (Update j s) o x = update_words j s o x

abbrev pub told_after : ℕ → Work → List ℕ → ℕ → Option Answer
told_after cpus Idle o x = None
told_after cpus (Lookup l) o x = break_value (lookup_after l x)
told_after cpus (Update j s) o x = break_value (update_after cpus j s o x)

-- A turn may be taken.
pub record Ready (m : Mem) (p : ℕ) (c : Cpu) (o : List ℕ) : Type 0 where
  pub ok : WorkOk c.work o
  pub room : length o ≡ 4096
  pub may : MayDo m p (act p c.work o)

-- A turn was taken.
pub record Stepped (p : ℕ) (m : Mem) (c : Cpu) (o : List ℕ) (r : Option Answer) (n : Mem) (d : Cpu) (u : List ℕ) : Type 0 where
  pub reply : ℕ
  pub did : Did p (act p c.work o) m reply n
  pub work : d.work ≡ work_after m.cpus c.work o reply
  pub words : u ≡ words_after c.work o reply
  pub told : r ≡ told_after m.cpus c.work o reply

-- Something has begun.
pub record Begun (k : Ask) (ps : List Piece) (o : List ℕ) (d : Cpu) (u : List ℕ) : Type 0 where
  pub work : d.work ≡ begin_work k
  pub words : u ≡ begin_words k ps o
  pub fits : AskFits k ps
