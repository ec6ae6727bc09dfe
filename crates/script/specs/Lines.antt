-- A line of a script.
-- Assumes nothing.
use Rattle.std.specs.Prelude.{◌≡◌, ℕ, ◌-◌, ◌<◌, Bool, cond, ◌||◌, List, length, take, replicate, Some, None, Ok, Err, Option, Result, ◌==◌, ◌≢◌, slice_index, slice_index_or}
use Rattle.std.specs.Option.{ok_or}
use Rattle.routes.specs.declared.Ask.TheVariants as ask
use Rattle.script.specs.declared.command.Command.{Command}
use Rattle.script.specs.declared.command.Command.TheVariants as command
use Rattle.script.specs.declared.expected.Expected.{Expected}
use Rattle.script.specs.declared.expected.Expected.TheVariants as expected
use Rattle.script.specs.declared.keyword.Keyword.{Keyword}
use Rattle.script.specs.declared.keyword.Keyword.TheVariants.{Find, Put, Take, Go, On, Any, Arrive}
use Rattle.script.specs.declared.processor.Processor.{Processor}
use Rattle.script.specs.Bytes.{all_digits}
use Rattle.script.specs.Keywords.{keyword_of}
use Rattle.script.specs.Numbers.{address_of}
use Rattle.script.specs.Pieces.{blank_piece, change_of}
use Rattle.script.specs.Reading.{◌>>=◌, processor_of, count_of, seed_of, end_of}
use Rattle.script.specs.Words.{word, past}

-- x stands nowhere in a text
abbrev pub Lacks : ℕ → List ℕ → Type 0
Lacks x t = (k : ℕ) → k < length t → slice_index t k ≢ x

-- x stands at n, and not before
pub record FirstAt (x : ℕ) (t : List ℕ) (n : ℕ) : Type 0 where
  pub within : n < length t
  pub here : slice_index_or t n 0 ≡ x
  pub before : (k : ℕ) → k < n → slice_index t k ≢ x

-- a processor, and how many of something
unfoldable pub counted_of : (most cpus : ℕ) → List ℕ → Result (Processor most × ℕ) Expected
counted_of most cpus t = processor_of most cpus (word t) >>= λ p. count_of (word (past t)) >>= λ n. end_of expected.End (past (past t)) >>= λ _. Ok (p, n)

-- up to so many turns of a processor
abbrev pub go_of : (most cpus : ℕ) → List ℕ → Result (Command most) Expected
go_of most cpus t = counted_of most cpus t >>= λ c. Ok (command.Go c.0 c.1)

-- turns of a processor until it is told
abbrev pub on_of : (most cpus : ℕ) → List ℕ → Result (Command most) Expected
on_of most cpus t = processor_of most cpus (word t) >>= λ p. end_of expected.End (past t) >>= λ _. Ok (command.On p)

-- turns that a number chooses
abbrev pub any_of : (most : ℕ) → List ℕ → Result (Command most) Expected
any_of most t = seed_of (word t) >>= λ s. count_of (word (past t)) >>= λ n. end_of expected.End (past (past t)) >>= λ _. Ok (command.Any s n)

-- stores of a processor arrive
abbrev pub arrive_of : (most cpus : ℕ) → List ℕ → Result (Command most) Expected
arrive_of most cpus t = counted_of most cpus t >>= λ c. Ok (command.Arrive c.0 c.1)

-- a question begins
abbrev pub find_of : {most : ℕ} → Processor most → List ℕ → Result (Command most) Expected
find_of cpu t = ok_or (address_of (word t)) expected.Address >>= λ a. end_of expected.End (past t) >>= λ _. Ok (command.Begin cpu (record { ask = ask.Find a; pieces = replicate 8 blank_piece }))

-- a change begins
abbrev pub changes_of : {most : ℕ} → Processor most → List ℕ → Result (Command most) Expected
changes_of cpu t = change_of t >>= λ c. Ok (command.Begin cpu (record { ask = ask.Change c.count; pieces = c.pieces }))

abbrev pub ask_by : {most : ℕ} → Option Keyword → Processor most → List ℕ → Result (Command most) Expected
ask_by (Some Find) cpu t = find_of cpu (past t)
ask_by (Some Put) cpu t = changes_of cpu t
ask_by (Some Take) cpu t = changes_of cpu t
ask_by (Some Go) cpu t = Err expected.Ask
ask_by (Some On) cpu t = Err expected.Ask
ask_by (Some Any) cpu t = Err expected.Ask
ask_by (Some Arrive) cpu t = Err expected.Ask
ask_by None cpu t = Err expected.Ask

-- a question or a change begins, after its processor's number
abbrev pub ask_of : {most : ℕ} → Processor most → List ℕ → Result (Command most) Expected
ask_of cpu t = ask_by (keyword_of (word t)) cpu t

-- w is a processor's number
abbrev pub begin_of : (most cpus : ℕ) → List ℕ → List ℕ → Result (Command most) Expected
begin_of most cpus w t = cond (all_digits 10 w) (processor_of most cpus w >>= λ p. ask_of p t) (Err expected.Command)

abbrev pub command_by : Option Keyword → (most cpus : ℕ) → List ℕ → List ℕ → Result (Command most) Expected
command_by (Some Go) most cpus w t = go_of most cpus t
command_by (Some On) most cpus w t = on_of most cpus t
command_by (Some Any) most cpus w t = any_of most t
command_by (Some Arrive) most cpus w t = arrive_of most cpus t
command_by (Some Find) most cpus w t = Err expected.Command
command_by (Some Put) most cpus w t = Err expected.Command
command_by (Some Take) most cpus w t = Err expected.Command
command_by None most cpus w t = begin_of most cpus w t

-- w is the first word, and t what follows it
abbrev pub command_of : (most cpus : ℕ) → List ℕ → List ℕ → Result (Command most) Expected
command_of most cpus w t = command_by (keyword_of w) most cpus w t

-- a line that is passed over: no word, or a first one that begins with #
abbrev pub passed : List ℕ → Bool
passed w = length w == 0 || slice_index w 0 == 35

-- a line without the carriage return at its end
abbrev pub chomped : List ℕ → List ℕ
chomped t = cond (slice_index t (length t - 1) == 13) (take (length t - 1) t) t

abbrev pub line_from : (most cpus : ℕ) → List ℕ → Result (Option (Command most)) Expected
line_from most cpus t = cond (passed (word t)) (Ok None) (command_of most cpus (word t) (past t) >>= λ c. Ok (Some c))

-- The command of a line, if it has one: its processor is one of cpus, and of a type that says that there are at most so many.
abbrev pub line_of : (most cpus : ℕ) → List ℕ → Result (Option (Command most)) Expected
line_of most cpus t = line_from most cpus (chomped t)
