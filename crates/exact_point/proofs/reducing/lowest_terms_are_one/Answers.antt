use Rattle.exact_point.proofs.LowestTerms.{one_form}
use Rattle.exact_point.proofs.reducing.lowest_terms_are_one.Goals as goal

pub returns : goal.returns
returns c = one_form
