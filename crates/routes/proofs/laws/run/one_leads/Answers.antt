use Rattle.routes.proofs.laws.run.one_leads.Goals as goal
use Rattle.routes.proofs.Run.Laws.{one_leads_all}

pub returns : goal.returns
returns c = one_leads_all
