use Rattle.std.proofs.Common.{◌≡◌, ◌++◌, map, filter, take}
use Rattle.exact_point.specs.Place.{place}
use Rattle.crossing_sweep.specs.Member.{units_of, ends_after}
use Rattle.crossing_sweep.proofs.members_after.enter.Given as goal

-- those of the first units that go on have been added
abbrev pub invariant-loop-start : goal.invariant-loop-start
invariant-loop-start l = units_of l.stay.items ≡ units_of l.fn.stay.items ++ filter (λ u. ends_after (place l.fn.node.at) u.seg) (map (λ s. s.unit) (take l.start-index l.entering))
