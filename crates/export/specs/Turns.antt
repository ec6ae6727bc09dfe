-- Turns of a processor whose registers are words.
-- Assumes nothing.
use Rattle.std.specs.Prelude.{◌≡◌, ℕ, List, length, Some, Ok, Err, Option, ◌≢◌}
use Rattle.routes.specs.declared.Answer.{Answer}
use Rattle.routes.specs.declared.Cpu.{Cpu}
use Rattle.routes.specs.Machine.Cpus.{act}
use Rattle.port.specs.Registers.{cpu_of}
use Rattle.port.specs.Replies.{ReplyFits}
use Rattle.port.specs.Turns.{Numbered, Sound, Replied}
use Rattle.export.specs.declared.refusal.Refusal.{Refusal}
use Rattle.export.specs.declared.refusal.Refusal.TheVariants.{Number, Length, Registers, Value, Busy}
use Rattle.export.specs.declared.structs.ActWords.{ActWords}
use Rattle.export.specs.declared.structs.ToldWords.{ToldWords}
use Rattle.export.specs.Calls.{Outcome}
use Rattle.export.specs.Structs.{act_words, told_words}

-- why a processor with registers o and own words u cannot take its turn with reply x
abbrev pub WhyNot : Refusal → ℕ → ℕ → ℕ → List ℕ → List ℕ → Type 0
WhyNot Number p cpus x o u = Numbered p cpus → ⊥
WhyNot Length p cpus x o u = length o ≡ 16 → length u ≢ 4096
WhyNot Registers p cpus x o u = (c : Cpu) → cpu_of o ≡ Some c → Sound p c.work u → ⊥
WhyNot Value p cpus x o u = (c : Cpu) → cpu_of o ≡ Some c → ReplyFits (act p c.work u) x → ⊥
WhyNot Busy p cpus x o u = ⊥

-- What the processor in the registers asks.
pub record Asked (p : ℕ) (o u : List ℕ) (n : ActWords) : Type 0 where
  pub cpu : Cpu
  pub was : cpu_of o ≡ Some cpu
  pub out : n ≡ act_words (act p cpu.work u)

abbrev pub ActDone : ℕ → List ℕ → List ℕ → Outcome → ActWords → ActWords → Type 0
ActDone p o u (Ok r) m n = Asked p o u n
ActDone p o u (Err e) m n = (n ≡ m) × WhyNot e p 16 0 o u

-- The processor in the registers has had its turn, and is in the registers then.
pub record Turned (p cpus x : ℕ) (o u o' u' : List ℕ) (n : ToldWords) : Type 0 where
  pub cpu : Cpu
  pub was : cpu_of o ≡ Some cpu
  pub next : Cpu
  pub is : cpu_of o' ≡ Some next
  pub told : Option Answer
  pub replied : Replied p cpus cpu u x told next u'
  pub out : n ≡ told_words told

-- Nothing has changed, for a reason.
pub record Untouched (e : Refusal) (p cpus x : ℕ) (o u o' u' : List ℕ) (m n : ToldWords) : Type 0 where
  pub registers : o' ≡ o
  pub own : u' ≡ u
  pub out : n ≡ m
  pub why : WhyNot e p cpus x o u

abbrev pub AfterDone : ℕ → ℕ → ℕ → List ℕ → List ℕ → ToldWords → Outcome → List ℕ → List ℕ → ToldWords → Type 0
AfterDone p cpus x o u m (Ok r) o' u' n = Turned p cpus x o u o' u' n
AfterDone p cpus x o u m (Err e) o' u' n = Untouched e p cpus x o u o' u' m n
