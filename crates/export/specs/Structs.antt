-- What a processor asks and tells, as numbers.
-- Assumes nothing.
use Rattle.std.specs.Prelude.{Some, None, Option}
use Rattle.routes.specs.declared.Answer.{Answer}
use Rattle.routes.specs.declared.Answer.TheVariants.{Found, Nothing, Done, Full, No}
use Rattle.routes.specs.declared.act.Act.{Act}
use Rattle.routes.specs.declared.act.Act.TheVariants.{Load, Store, Fence, Swap, Obtain, Release, Pause}
use Rattle.export.specs.declared.structs.ActWords.{ActWords}
use Rattle.export.specs.declared.structs.ToldWords.{ToldWords}

abbrev pub act_words : Act → ActWords
act_words Pause = record { kind = 0; block = 0; word = 0; spare = 0; x = 0; new = 0 }
act_words (Load b w) = record { kind = 1; block = b; word = w; spare = 0; x = 0; new = 0 }
act_words (Store b w y) = record { kind = 2; block = b; word = w; spare = 0; x = y; new = 0 }
act_words Fence = record { kind = 3; block = 0; word = 0; spare = 0; x = 0; new = 0 }
act_words (Swap b w old z) = record { kind = 4; block = b; word = w; spare = 0; x = old; new = z }
act_words Obtain = record { kind = 5; block = 0; word = 0; spare = 0; x = 0; new = 0 }
act_words (Release b) = record { kind = 6; block = b; word = 0; spare = 0; x = 0; new = 0 }

abbrev pub answered_by : Answer → ToldWords
answered_by (Found l t) = record { kind = 1; len = l; tells = t; spare = 0 }
answered_by Nothing = record { kind = 2; len = 0; tells = 0; spare = 0 }
answered_by Done = record { kind = 3; len = 0; tells = 0; spare = 0 }
answered_by Full = record { kind = 4; len = 0; tells = 0; spare = 0 }
answered_by (No n) = record { kind = 5; len = n; tells = 0; spare = 0 }

abbrev pub told_words : Option Answer → ToldWords
told_words None = record { kind = 0; len = 0; tells = 0; spare = 0 }
told_words (Some a) = answered_by a
