-- What an update has in hand, with one part changed.
-- Assumes nothing.
use Rattle.std.specs.Prelude.{ℕ}
use Rattle.routes.specs.declared.update.job.Job.{Job}

abbrev pub needing : ℕ → Job → Job
needing n j = record { size = j.size; need = n; got = j.got; used = j.used; retired = j.retired; root = j.root }

abbrev pub having : ℕ → Job → Job
having n j = record { size = j.size; need = j.need; got = n; used = j.used; retired = j.retired; root = j.root }

abbrev pub using' : ℕ → Job → Job
using' n j = record { size = j.size; need = j.need; got = j.got; used = n; retired = j.retired; root = j.root }

abbrev pub rooted : ℕ → Job → Job
rooted b j = record { size = j.size; need = j.need; got = j.got; used = j.used; retired = j.retired; root = b }

-- after an edit: so many fresh blocks used, so many replaced, and a new root
abbrev pub rebuilt : ℕ → ℕ → ℕ → Job → Job
rebuilt u r b j = record { size = j.size; need = j.need; got = j.got; used = u; retired = r; root = b }
