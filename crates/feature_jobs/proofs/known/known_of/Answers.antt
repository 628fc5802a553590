use Rattle.std.proofs.Common.{[], ◌∷◌, rules}
use Rattle.feature_jobs.specs.Findings.{IsFoundOf}
use Rattle.feature_jobs.specs.Pairs.{near_at, in_windows}
use Rattle.feature_jobs.proofs.known.known_of.Goals as goal

pub returns : goal.returns
returns c =
    let found : IsFoundOf c.args.features.now (near_at c.args.feature 0 ∷ []) 2 c.extent_of-core.result c.args.own.now c.in_ok-found.found = search rules in
    in_windows c.extent_of-core.result c.args.own.now c.requires found
