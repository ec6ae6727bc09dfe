-- The turns of a processor by what they are replied: what came of one, or why it could not be taken.
-- Assumes nothing.
use Rattle.std.specs.Prelude.{◌≡◌, ℕ, ◌<◌, ◌≤◌, List, length, Ok, Err, Option, Result}
use Rattle.routes.specs.declared.Answer.{Answer}
use Rattle.routes.specs.declared.Cpu.{Cpu}
use Rattle.routes.specs.declared.act.Act.{Act}
use Rattle.routes.specs.declared.work.Work.{Work}
use Rattle.routes.specs.Machine.Cpus.{WorkOk, act, work_after, words_after, told_after}
use Rattle.port.specs.declared.turn.NotReady.{NotReady}
use Rattle.port.specs.declared.turn.NotReady.TheVariants.{Number, Words, Registers, Reply}
use Rattle.port.specs.Replies.{InMemory, ReplyFits, reply_to}

-- a processor and how many there are
abbrev pub Numbered : ℕ → ℕ → Type 0
Numbered p cpus = (p < cpus) × (cpus ≤ 16)

-- registers in their ranges, which ask for something in memory
abbrev pub Sound : ℕ → Work → List ℕ → Type 0
Sound p k o = WorkOk k o × InMemory (act p k o)

-- what is wrong
abbrev pub Wrong : NotReady → ℕ → ℕ → Work → List ℕ → ℕ → Type 0
Wrong Number p cpus k o x = Numbered p cpus → ⊥
Wrong Words p cpus k o x = length o ≡ 4096 → ⊥
Wrong Registers p cpus k o x = Sound p k o → ⊥
Wrong Reply p cpus k o x = ReplyFits (act p k o) x → ⊥

-- A processor may take its turn; what it asks.
pub record Asks (p cpus : ℕ) (k : Work) (o : List ℕ) (a : Act) : Type 0 where
  pub number : Numbered p cpus
  pub words : length o ≡ 4096
  pub ok : WorkOk k o
  pub memory : InMemory (act p k o)
  pub asked : a ≡ act p k o

abbrev pub AsksNext : ℕ → ℕ → Work → List ℕ → Result Act NotReady → Type 0
AsksNext p cpus k o (Ok a) = Asks p cpus k o a
AsksNext p cpus k o (Err e) = Wrong e p cpus k o 0

-- A turn was taken: by the reply, what is under way then, the own words and what is told.
pub record Replied (p cpus : ℕ) (c : Cpu) (o : List ℕ) (x : ℕ) (t : Option Answer) (d : Cpu) (u : List ℕ) : Type 0 where
  pub work : d.work ≡ work_after cpus c.work o (reply_to (act p c.work o) x)
  pub words : u ≡ words_after c.work o (reply_to (act p c.work o) x)
  pub told : t ≡ told_after cpus c.work o (reply_to (act p c.work o) x)

-- Nothing has changed, for a reason.
pub record Refused (e : NotReady) (p cpus : ℕ) (c : Cpu) (o : List ℕ) (x : ℕ) (d : Cpu) (u : List ℕ) : Type 0 where
  pub cpu : d ≡ c
  pub own : u ≡ o
  pub wrong : Wrong e p cpus c.work o x

abbrev pub AfterReply : ℕ → ℕ → ℕ → Cpu → List ℕ → Result (Option Answer) NotReady → Cpu → List ℕ → Type 0
AfterReply p cpus x c o (Ok t) d u = Replied p cpus c o x t d u
AfterReply p cpus x c o (Err e) d u = Refused e p cpus c o x d u
