use Rattle.routes.proofs.laws.run.turn_counts.Goals as goal
use Rattle.routes.proofs.Run.Laws.{turn_counts_lem, waits_for_questions}

pub returns : goal.returns
returns c = record { counts = turn_counts_lem; waits = waits_for_questions }
