use Rattle.std.proofs.Common.{◌≡◌, filter, take}
use Rattle.exact_point.specs.Place.{place}
use Rattle.crossing_sweep.specs.Member.{ends_after}
use Rattle.crossing_sweep.proofs.members_after.staying.Given as goal

-- those of the first members that go on are there
abbrev pub invariant-loop-member : goal.invariant-loop-member
invariant-loop-member l = l.stay.items ≡ filter (λ m. ends_after (place l.fn.node.at) m.unit.seg) (take l.member-index l.bundle)
