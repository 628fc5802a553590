use Rattle.feature_jobs.proofs.KnownLemmas.{one_more}
use Rattle.feature_jobs.proofs.known.all_known.Goals as goal

pub loop-feature-preserved : goal.loop-feature-preserved
loop-feature-preserved c =
    one_more c.args.features.now c.loop-feature.feature c.loop-feature.list.items c.push.new.self.items c.in_ok-one.one c.loop-feature.invariant c.in_ok-one.ensures
    c.in_ok-push.ensures.items
