-- What a call returns: 0, or the number of a refusal.
-- Assumes nothing.
use Rattle.std.specs.Prelude.{◌≡◌, ℕ, cond, List, length, Ok, Err, Result, ◌==◌, ok_or}
use Rattle.routes.specs.declared.Cpu.{Cpu}
use Rattle.port.specs.declared.turn.NotReady.{NotReady}
use Rattle.port.specs.declared.turn.NotReady.TheVariants.{Number as NoNumber, Words as NoWords, Registers as NoRegisters, Reply as NoReply}
use Rattle.port.specs.Registers.{cpu_of}
use Rattle.export.specs.declared.refusal.Refusal.{Refusal}
use Rattle.export.specs.declared.refusal.Refusal.TheVariants.{Number, Length, Registers, Value, Busy}

abbrev pub number_of : Refusal → ℕ
number_of Number = 1
number_of Length = 2
number_of Registers = 3
number_of Value = 4
number_of Busy = 5

abbrev pub Outcome : Type 0
Outcome = Result (Unit {0}) Refusal

abbrev pub status_of : Outcome → ℕ
status_of (Ok u) = 0
status_of (Err e) = number_of e

-- what is returned is the number of an outcome with this property
abbrev pub By : ℕ → (Outcome → Type 0) → Type 0
By s P = (r : Outcome) × (s ≡ status_of r) × P r

abbrev pub refusal_of : NotReady → Refusal
refusal_of NoNumber = Number
refusal_of NoWords = Length
refusal_of NoRegisters = Registers
refusal_of NoReply = Value

-- the processor in these registers
abbrev pub loaded : List ℕ → Result Cpu Refusal
loaded o = cond (length o == 16) (ok_or (cpu_of o) Registers) (Err Length)
