-- The words that have a meaning of their own.
-- Assumes nothing.
use Rattle.std.specs.Prelude.{ℕ, cond, List, Some, None, codes, Option}
use Rattle.std.specs.Str.{bytes_eq}
use Rattle.script.specs.declared.keyword.Keyword.{Keyword}
use Rattle.script.specs.declared.keyword.Keyword.TheVariants.{Find, Put, Take, Go, On, Any, Arrive}

abbrev pub keyword_of : List ℕ → Option Keyword
keyword_of w =
    cond (bytes_eq w (codes "find")) (Some Find)
    (cond (bytes_eq w (codes "put")) (Some Put)
    (cond (bytes_eq w (codes "take")) (Some Take)
    (cond (bytes_eq w (codes "go")) (Some Go)
    (cond (bytes_eq w (codes "on")) (Some On)
    (cond (bytes_eq w (codes "any")) (Some Any)
    (cond (bytes_eq w (codes "arrive")) (Some Arrive) None))))))
