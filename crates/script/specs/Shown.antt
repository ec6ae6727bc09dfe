-- What a command is shown as, and that reading gives it back.
-- Assumes nothing.
use Rattle.std.specs.Prelude.{◌≡◌, ℕ, zero, suc, ◌-◌, ◌/◌, ◌%◌, ◌^◌, ◌<◌, ◌≤◌, false, cond, List, [], ◌∷◌, ◌++◌, map, length, take, drop, replicate, Some, Ok, codes, decimal, All}
use Rattle.std.specs.Char.{digit_char}
use Rattle.routes.specs.declared.Ask.{Ask}
use Rattle.routes.specs.declared.Ask.TheVariants.{Find, Change}
use Rattle.routes.specs.declared.Piece.{Piece}
use Rattle.script.specs.declared.command.Command.{Command}
use Rattle.script.specs.declared.command.Command.TheVariants.{Begin, Go, On, Any, Arrive}
use Rattle.script.specs.Lines.{line_of}
use Rattle.script.specs.Pieces.{blank_piece}

-- words or parts that follow others, each after the same byte
unfoldable pub after : ℕ → List (List ℕ) → List ℕ
after b [] = []
after b (w ∷ ws) = b ∷ (w ++ after b ws)

-- words with a blank between them
abbrev pub sentence : List (List ℕ) → List ℕ
sentence [] = []
sentence (w ∷ ws) = w ++ after 32 ws

-- the last so many hexadecimal digits of a number
unfoldable pub hexadecimal : ℕ → ℕ → List ℕ
hexadecimal zero n = []
hexadecimal (suc k) n = hexadecimal k (n / 16) ++ (digit_char (n % 16) ∷ [])

abbrev pub shown_prefix : ℕ → ℕ → List ℕ
shown_prefix bits len = hexadecimal 8 bits ++ (47 ∷ decimal len)

abbrev pub piece_words : Piece → List (List ℕ)
piece_words p = cond p.puts (codes "put" ∷ shown_prefix p.bits p.len ∷ decimal p.tells ∷ []) (codes "take" ∷ shown_prefix p.bits p.len ∷ [])

-- a piece, with a blank in front
abbrev pub shown_piece : Piece → List ℕ
shown_piece p = after 32 (piece_words p)

-- pieces with a comma between them
abbrev pub shown_pieces : List Piece → List ℕ
shown_pieces [] = []
shown_pieces (p ∷ ps) = shown_piece p ++ after 44 (map shown_piece ps)

abbrev pub shown_ask : ℕ → Ask → List Piece → List ℕ
shown_ask cpu (Find a) ps = sentence (decimal cpu ∷ codes "find" ∷ hexadecimal 8 a ∷ [])
shown_ask cpu (Change n) ps = decimal cpu ++ shown_pieces (take n ps)

abbrev pub shown : {cpus : ℕ} → Command cpus → List ℕ
shown (Begin cpu r) = shown_ask cpu.number r.ask r.pieces
shown (Go cpu turns) = sentence (codes "go" ∷ decimal cpu.number ∷ decimal turns ∷ [])
shown (On cpu) = sentence (codes "on" ∷ decimal cpu.number ∷ [])
shown (Any seed turns) = sentence (codes "any" ∷ decimal seed ∷ decimal turns ∷ [])
shown (Arrive cpu stores) = sentence (codes "arrive" ∷ decimal cpu.number ∷ decimal stores ∷ [])

-- a piece as the code can hold it, of which nothing is told if it takes a route out
pub record FitsPiece (p : Piece) : Type 0 where
  pub len : p.len < 256
  pub bits : p.bits < 2 ^ 32
  pub tells : p.tells < 2 ^ 32
  pub silent : p.puts ≡ false → p.tells ≡ 0

-- one piece to eight, and blank ones behind them
pub record FitsChange (n : ℕ) (ps : List Piece) : Type 0 where
  pub some : 0 < n
  pub few : n ≤ 8
  pub row : length ps ≡ 8
  pub behind : drop n ps ≡ replicate (8 - n) blank_piece
  pub each : All FitsPiece (take n ps)

abbrev pub FitsAsk : Ask → List Piece → Type 0
FitsAsk (Find a) ps = (a < 2 ^ 32) × (ps ≡ replicate 8 blank_piece)
FitsAsk (Change n) ps = FitsChange n ps

-- a command that a script can give: its processor is one of those that there are
abbrev pub Fits : {cpus : ℕ} → Command cpus → Type 0
Fits (Begin cpu r) = FitsAsk r.ask r.pieces
Fits (Go cpu turns) = turns < 2 ^ 32
Fits (On cpu) = Unit {0}
Fits (Any seed turns) = (seed < 2 ^ 64) × (turns < 2 ^ 32)
Fits (Arrive cpu stores) = stores < 2 ^ 32

-- its processor, if it has one, is one of so many
abbrev pub Among : {most : ℕ} → ℕ → Command most → Type 0
Among cpus (Begin cpu r) = cpu.number < cpus
Among cpus (Go cpu turns) = cpu.number < cpus
Among cpus (On cpu) = cpu.number < cpus
Among cpus (Any seed turns) = Unit {0}
Among cpus (Arrive cpu stores) = cpu.number < cpus

-- Reading what a command is shown as gives the command.
abbrev pub ReadsBack : Type 0
ReadsBack = (cpus : ℕ) → cpus < 256 → (c : Command cpus) → Fits c → line_of cpus cpus (shown c) ≡ Ok (Some c)

-- The same where there are fewer processors than the type says.
abbrev pub ReadsBackAmong : Type 0
ReadsBackAmong = (most cpus : ℕ) → most < 256 → (c : Command most) → Among cpus c → Fits c → line_of most cpus (shown c) ≡ Ok (Some c)
