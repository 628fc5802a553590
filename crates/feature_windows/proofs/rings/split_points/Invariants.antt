use Rattle.std.proofs.Common.{◌≡◌, drop}
use Rattle.std.specs.Prelude.{sum_by}
use Rattle.feature_windows.proofs.rings.split_points.Given as goal

-- after the points of the counts that are left come those after all
abbrev pub invariant-loop-count : goal.invariant-loop-count
invariant-loop-count l = drop (sum_by (λ n. n) (drop l.count-index l.counts)) l.rest ≡ drop (sum_by (λ n. n) l.counts) l.points
