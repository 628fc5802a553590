use Rattle.commit_plan.proofs.Filed as lemmas
use Rattle.commit_plan.proofs.laws.filing_makes.Goals as goal

pub returns : goal.returns
returns c = lemmas.filing_makes
