use Rattle.std.proofs.Common.{◌≡◌, ◌+ℤ◌, drop}
use Rattle.feature_jobs.specs.Corners.{turned}
use Rattle.feature_jobs.proofs.corner_areas.turned.Given as goal

-- what is swept so far, and what is left, make up the whole
abbrev pub invariant-loop-to : goal.invariant-loop-to
invariant-loop-to l = (l.twice +ℤ turned l.from (drop l.to-index l.others)) ≡ turned l.fn.first l.others
