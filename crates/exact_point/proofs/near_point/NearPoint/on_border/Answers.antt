use Rattle.std.proofs.Common.{◌≡◌, ◌-ℤ◌, ap, arith}
use Rattle.std.proofs.lemmas.Int.{ints}
use Rattle.exact_point.proofs.NearLemmas.{near_below}
use Rattle.exact_point.proofs.near_point.NearPoint.on_border.Goals as goal

pub of-requires : goal.of-requires
of-requires c =
    let s = c.args.seg.now in
    let over : c.border_point-at.result.w ≡ s.right.x -ℤ s.left.x = ap (λ p. p.w) c.border_point-at.ensures.value in
    near_below c.border_point-at.result (omega (arith, ints, over, c.known_ends.ensures.in_range.left_x.0, c.known_ends.ensures.in_range.right_x.1))
