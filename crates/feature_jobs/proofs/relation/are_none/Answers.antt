use Rattle.feature_jobs.proofs.ListLemmas.{nothing_of}
use Rattle.feature_jobs.proofs.relation.are_none.Goals as goal

pub returns : goal.returns
returns c = nothing_of c.args.pieces.now c.is_empty.result c.is_empty.ensures
