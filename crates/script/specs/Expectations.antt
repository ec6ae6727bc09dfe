-- What is said of a line that goes wrong, after "expected ".
-- Assumes nothing.
use Rattle.std.specs.Prelude.{ℕ, List, ◌++◌, codes, decimal}
use Rattle.script.specs.declared.expected.Expected.{Expected}
use Rattle.script.specs.declared.expected.Expected.TheVariants.{Command, Processor, Ask, Piece, Address, Prefix, Count, Seed, CommaOrEnd, End}

abbrev pub expected_text : Expected → List ℕ
expected_text Command = codes "a processor's number, go, on, any or arrive"
expected_text (Processor cpus) = codes "a processor's number below " ++ decimal cpus
expected_text Ask = codes "find, put or take"
expected_text Piece = codes "put or take"
expected_text Address = codes "an address of eight hexadecimal digits"
expected_text Prefix = codes "a prefix, as 0a000000/8"
expected_text Count = codes "a number below 4294967296"
expected_text Seed = codes "a number below 18446744073709551616"
expected_text CommaOrEnd = codes "a comma or the end of the line"
expected_text End = codes "the end of the line"
