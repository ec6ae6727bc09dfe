-- What is printed of what a processor tells.
-- Assumes nothing.
use Rattle.std.specs.Prelude.{ℕ, List, ◌++◌, codes, decimal}
use Rattle.routes.specs.declared.Answer.{Answer}
use Rattle.routes.specs.declared.Answer.TheVariants.{Found, Nothing, Done, Full, No}

abbrev pub told_text : ℕ → Answer → List ℕ
told_text cpu (Found len tells) = decimal cpu ++ codes " " ++ decimal len ++ codes " " ++ decimal tells
told_text cpu Nothing = decimal cpu ++ codes " nothing"
told_text cpu Done = decimal cpu ++ codes " done"
told_text cpu Full = decimal cpu ++ codes " full"
told_text cpu (No why) = decimal cpu ++ codes " no " ++ decimal why
