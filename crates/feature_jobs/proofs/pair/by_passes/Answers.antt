use Rattle.std.proofs.Common.{rules}
use Rattle.feature_jobs.specs.Findings.{IsFoundOf}
use Rattle.feature_jobs.specs.Pairs.{by_windows}
use Rattle.feature_jobs.proofs.pair.by_passes.Goals as goal

pub returns-clause-told : goal.returns-clause-told
returns-clause-told c are =
    let found : IsFoundOf c.args.features.now c.args.near.now 2 c.args.core c.args.steps.now.both c.in_ok-found.found = search rules in
    by_windows c.args.steps.now are found c.in_ok-relation.ensures
