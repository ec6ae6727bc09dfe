-- Registers in 16 words.
-- Assumes nothing.
use Rattle.std.specs.Prelude.{ℕ, ◌/◌, ◌%◌, Bool, cond, ◌&&◌, List, length, Some, None, Option, ◌==◌, nat_le, slice_index, option_map, option_and_then}
use Rattle.std.specs.List.{list_all, enumerate_from}
use Rattle.routes.specs.declared.Cpu.{Cpu}
use Rattle.routes.specs.declared.update.job.Job.{Job}
use Rattle.routes.specs.declared.work.Work.{Work}
use Rattle.port.specs.declared.fields.AnswerWords.{AnswerWords}
use Rattle.port.specs.declared.fields.Fields.{Fields}
use Rattle.port.specs.declared.fields.Registers.{Registers}
use Rattle.port.specs.Fields.{work_of}

-- the most that word i can be: an epoch takes all of it, a level a byte, an answer six, the others four
abbrev pub most_at : ℕ → ℕ
most_at i = cond (i == 8) 18446744073709551615 (cond (i == 12) 255 (cond (i == 15) 281474976710655 4294967295))

-- no word is more than it can be
abbrev pub narrow : List ℕ → Bool
narrow o = list_all (λ p. nat_le p.1 (most_at p.0)) (enumerate_from 0 o)

abbrev pub low : ℕ → ℕ
low x = x % 4294967296

-- an answer in one word: what it tells, its length, its kind
abbrev pub best_in : ℕ → AnswerWords
best_in x = record { kind = (x / 1099511627776) % 256; len = (x / 4294967296) % 256; tells = low x }

abbrev pub job_in : List ℕ → Job
job_in o = record { size = low (slice_index o 2); need = low (slice_index o 3); got = low (slice_index o 4); used = low (slice_index o 5); retired = low (slice_index o 6); root = low (slice_index o 7) }

abbrev pub fields_in : List ℕ → Fields
fields_in o = record {
  state = low (slice_index o 1);
  epoch = slice_index o 8;
  index = low (slice_index o 9);
  node = low (slice_index o 10);
  next = low (slice_index o 11);
  level = slice_index o 12 % 256;
  word = low (slice_index o 13);
  first = low (slice_index o 14);
  best = best_in (slice_index o 15);
}

abbrev pub registers_in : List ℕ → Registers
registers_in o = record { phase = low (slice_index o 0); job = job_in o; fields = fields_in o }

abbrev pub registers_of : List ℕ → Option Registers
registers_of o = cond (length o == 16 && narrow o) (Some (registers_in o)) None

-- a processor with this under way
abbrev pub with_work : Work → Cpu
with_work k = record { work = k }

-- the processor that was saved in the words, if they are such
abbrev pub cpu_of : List ℕ → Option Cpu
cpu_of o = option_map with_work (option_and_then work_of (registers_of o))
