use Rattle.std.proofs.Common.{rules, ◌≡◌, not}
use Rattle.std.specs.Ordering.{is_lt, is_gt}
use Rattle.overlay_terms.specs.Plane.{point_cmp, whole}
use Rattle.exact_point.specs.Place.{place}
use Rattle.exact_point.proofs.Comparing.{first_holds, equal_to}
use Rattle.exact_point.proofs.side.on.Goals as goal

pub returns : goal.returns
returns c =
    let p = place c.args.p.now in
    let left : not c.is_lt.result ≡ not (is_lt (point_cmp p (whole c.args.seg.now.left))) = search (rules, c.is_lt.ensures, c.cmp_whole-from_left.ensures, c.left.ensures.value) in
    let right : not c.is_gt.result ≡ not (is_gt (point_cmp p (whole c.args.seg.now.right))) = search (rules, c.is_gt.ensures, c.cmp_whole-from_right.ensures, c.right.ensures.value) in
    first_holds _ _ _ _ _ (equal_to c.side.result _ c.is_ne.result c.side.ensures c.is_ne.ensures c.if-is_ne.false) left right
