use Rattle.std.proofs.Common.{◌≡◌, take}
use Rattle.std.specs.Prelude.{All, flat_map}
use Rattle.feature_spots.specs.Spots.{IsNear}
use Rattle.feature_jobs.specs.Rows.{point_row, ArePositive}
use Rattle.feature_jobs.proofs.points.rows_against.Given as goal

-- the rows of the points so far are there
abbrev pub invariant-loop-point : goal.invariant-loop-point
invariant-loop-point l = All (All IsNear) l.rings → ArePositive l.points → l.rows.items ≡ flat_map (point_row l.rings) (take l.point-index l.points)
