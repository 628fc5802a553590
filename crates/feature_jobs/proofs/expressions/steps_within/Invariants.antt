use Rattle.std.proofs.Common.{◌≡◌, map, take}
use Rattle.layer_expr.specs.StepList.{reached}
use Rattle.feature_jobs.specs.Expressions.{plain}
use Rattle.feature_jobs.proofs.expressions.steps_within.Given as goal

-- the names so far are there
abbrev pub invariant-loop-one : goal.invariant-loop-one
invariant-loop-one l = reached l.list.items ≡ map plain (take l.one-index l.names)
