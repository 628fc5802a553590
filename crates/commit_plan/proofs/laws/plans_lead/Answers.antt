use Rattle.commit_plan.proofs.Plan.{plans}
use Rattle.commit_plan.proofs.laws.plans_lead.Goals as goal

pub returns : goal.returns
returns c x y ws b plan = plans x y ws b plan
