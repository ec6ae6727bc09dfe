use Rattle.routes.proofs.laws.build.changes_are_built.Goals as goal
use Rattle.routes.proofs.Build.Stages.{stage_edit, stage_next, stage_end}

pub returns : goal.returns
returns c = record { edited = stage_edit; written = stage_next; built = stage_end }
