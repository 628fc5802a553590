use Rattle.std.proofs.Common.{subst}
use Rattle.std.specs.Prelude.{All}
use Rattle.feature_jobs.specs.Findings.{HasNoPiece}
use Rattle.feature_jobs.specs.Pairs.{by_passes}
use Rattle.feature_jobs.proofs.RowLemmas.{of_ok}
use Rattle.feature_jobs.proofs.relation.has_rest.Goals as goal

pub returns : goal.returns
returns c =
    of_ok c.has_part.result
    (λ has none is.
    by_passes c.args.one.now.extent
    (record { windows = c.in_ok-list.list.items; are = c.in_ok-list.ensures; none = subst (All (HasNoPiece c.args.alone.now)) c.deref.ensures.value (none is) }))
    c.has_part.ensures
