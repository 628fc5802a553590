use Rattle.std.proofs.Common.{◌≡◌, length, filter}
use Rattle.exact_point.specs.Place.{place}
use Rattle.sweep_line.specs.Status.{goes_on}
use Rattle.sweep_line.proofs.status.Status.leave.Given as goal

abbrev pub invariant-loop : goal.invariant-loop
invariant-loop l = filter (goes_on (place l.at)) l.self ≡ filter (goes_on (place l.at)) l.fn.self

abbrev pub decreases-loop : goal.decreases-loop
decreases-loop l = length l.self
