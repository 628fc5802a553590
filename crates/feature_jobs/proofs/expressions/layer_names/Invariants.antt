use Rattle.std.proofs.Common.{◌≡◌}
use Rattle.feature_jobs.specs.Expressions.{layer_names}
use Rattle.feature_jobs.proofs.expressions.layer_names.Given as goal

-- the first layers have their names
abbrev pub invariant-loop-number : goal.invariant-loop-number
invariant-loop-number l = l.names.items ≡ layer_names l.number
