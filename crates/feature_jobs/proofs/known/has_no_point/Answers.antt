use Rattle.feature_jobs.proofs.ListLemmas.{nothing_of}
use Rattle.feature_jobs.proofs.KnownLemmas.{no_point, not_there}
use Rattle.feature_jobs.proofs.known.has_no_point.Goals as goal

pub returns-in-Some : goal.returns-in-Some
returns-in-Some c e =
    no_point c.args.features.now c.args.feature c.in-Some.rings.now c.lent.result.0.now c.lent.result.1.now c.in-Some.ensures.some c.lent.ensures
    (nothing_of c.lent.result.1.now c.is_empty.result c.is_empty.ensures e)

pub returns-in-None : goal.returns-in-None
returns-in-None c _ = not_there c.args.features.now c.args.feature c.in-None.ensures.none
