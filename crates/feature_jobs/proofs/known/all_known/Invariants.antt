use Rattle.feature_jobs.proofs.KnownLemmas.{AreFirst}
use Rattle.feature_jobs.proofs.known.all_known.Given as goal

-- the first features are known
abbrev pub invariant-loop-feature : goal.invariant-loop-feature
invariant-loop-feature l = AreFirst l.features l.feature l.list.items
