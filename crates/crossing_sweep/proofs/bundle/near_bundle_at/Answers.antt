use Rattle.std.proofs.Common.{List, take, drop, subst}
use Rattle.std.specs.List.{slice_range}
use Rattle.exact_point.specs.Place.{place}
use Rattle.exact_point.specs.declared.point.HPoint.{HPoint}
use Rattle.crossing_sweep.specs.Status.{SidesFallAlong}
use Rattle.crossing_sweep.specs.Step.{IsSplitAt}
use Rattle.crossing_sweep.specs.Member.{segs_of}
use Rattle.crossing_sweep.specs.declared.member.Member.{Member}
use Rattle.crossing_sweep.proofs.bundle.near_bundle_at.Goals as goal

pub returns-clause-split : goal.returns-clause-split
returns-clause-split c =
    let ms : List Member = c.args.status.now in
    let low = c.bundle_at.result.0 in
    let high = c.bundle_at.result.1 in
    subst (λ (z : HPoint). SidesFallAlong (place z) (segs_of ms) → IsSplitAt (place z) (segs_of (take low ms)) (segs_of (slice_range ms low high)) (segs_of (drop high ms))) c.point.ensures c.bundle_at.ensures.split
