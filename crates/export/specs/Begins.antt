-- How something begins, by words.
-- Assumes nothing.
use Rattle.std.specs.Prelude.{◌≡◌, ℕ, ◌+◌, ◌*◌, ◌%◌, Bool, cond, ◌&&◌, List, map, length, Some, Ok, Err, Result, ◌==◌, ◌≢◌, nat_lt, slice_index}
use Rattle.std.specs.List.{list_all, range_with_len}
use Rattle.routes.specs.declared.Ask.{Ask}
use Rattle.routes.specs.declared.Cpu.{Cpu}
use Rattle.routes.specs.declared.Piece.{Piece}
use Rattle.routes.specs.declared.work.Work.{Work}
use Rattle.routes.specs.declared.work.Work.TheVariants.{Idle, Lookup, Update}
use Rattle.routes.specs.Machine.Begins.{begin_work, begin_words}
use Rattle.port.specs.Registers.{with_work, cpu_of}
use Rattle.export.specs.declared.refusal.Refusal.{Refusal}
use Rattle.export.specs.declared.refusal.Refusal.TheVariants.{Length, Value, Busy}
use Rattle.export.specs.Calls.{Outcome, loaded}

-- Registers as a processor starts with them.
abbrev pub Started : List ℕ → Outcome → List ℕ → Type 0
Started o (Ok u) n = cpu_of n ≡ Some (with_work Idle)
Started o (Err e) n = (e ≡ Length) × (n ≡ o) × (length o ≢ 16)

abbrev pub idle_work : Work → Outcome
idle_work Idle = Ok tt
idle_work (Lookup l) = Err Busy
idle_work (Update j s) = Err Busy

abbrev pub idle_of : Result Cpu Refusal → Outcome
idle_of (Ok c) = idle_work c.work
idle_of (Err e) = Err e

-- whether something may begin
abbrev pub may_begin : List ℕ → Outcome
may_begin o = idle_of (loaded o)

-- This has begun in the registers, or nothing has changed.
abbrev pub Begun : Ask → List ℕ → Outcome → List ℕ → Type 0
Begun k o (Ok u) n = cpu_of n ≡ Some (with_work (begin_work k))
Begun k o (Err e) n = n ≡ o

-- piece k of the words: whether it puts in, its length, its bits, what it tells
abbrev pub piece_fits : List ℕ → ℕ → Bool
piece_fits w k = ((nat_lt (slice_index w (4 * k)) 2 && nat_lt (slice_index w (4 * k + 1)) 256) && nat_lt (slice_index w (4 * k + 2)) 4294967296) && nat_lt (slice_index w (4 * k + 3)) 4294967296

abbrev pub pieces_fit : List ℕ → Bool
pieces_fit w = list_all (piece_fits w) (range_with_len 0 8)

abbrev pub piece_in : List ℕ → ℕ → Piece
piece_in w k = record { puts = (slice_index w (4 * k) == 1); len = slice_index w (4 * k + 1) % 256; bits = slice_index w (4 * k + 2) % 4294967296; tells = slice_index w (4 * k + 3) % 4294967296 }

abbrev pub pieces_in : List ℕ → List Piece
pieces_in w = map (piece_in w) (range_with_len 0 8)

-- whether an update may begin, by the registers, the own words and the words of its pieces
abbrev pub may_update : List ℕ → List ℕ → List ℕ → Outcome
may_update o u w = cond (length u == 4096 && length w == 32) (cond (pieces_fit w) (may_begin o) (Err Value)) (Err Length)

-- The own words as it has begun, or as they were.
abbrev pub BegunWith : Ask → List ℕ → List ℕ → Outcome → List ℕ → Type 0
BegunWith k w o (Ok u) n = n ≡ begin_words k (pieces_in w) o
BegunWith k w o (Err e) n = n ≡ o
