use Rattle.exact_point.specs.Place.{place}
use Rattle.exact_point.proofs.BorderLemmas.{one_cut}
use Rattle.exact_point.proofs.point_name.border_cut.Goals as goal

pub returns-clause-only : goal.returns-clause-only
returns-clause-only c = λ p w h. one_cut _ _ (place c.border_point.result) p c.border_point.ensures.stands h
