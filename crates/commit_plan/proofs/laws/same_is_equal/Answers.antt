use Rattle.commit_plan.proofs.EqualityTests as lemmas
use Rattle.commit_plan.proofs.laws.same_is_equal.Goals as goal

pub returns : goal.returns
returns c = lemmas.same_is_equal
