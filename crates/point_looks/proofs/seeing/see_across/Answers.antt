use Rattle.std.proofs.Common.{rules, ◌≡◌, ◌∙◌, pos, ◌<ℤ◌, arith, to_z, of_z}
use Rattle.std.specs.Int.{w64}
use Rattle.std.proofs.lemmas.Int.{ints, to_z-of_z}
use Rattle.point_looks.specs.Spot.{point_of}
use Rattle.point_looks.proofs.LookLemmas.{past_floor, up_to_floor, before_ceil, from_ceil, is_less, reads_less, both_more, both_less, below_lower, on_lower, below_higher, on_higher}
use Rattle.point_looks.proofs.seeing.see_across.Goals as goal

pub returns-then-spot-min-clause-below : goal.returns-then-spot-min-clause-below
returns-then-spot-min-clause-below c =
    let p = c.args.spot.now in
    let s = c.args.seg.now in
    let positive : pos 0 <ℤ p.at.w = omega (arith, ints, p.at.w_low) in
    let after = up_to_floor p.floor_x p.at.x p.at.w s.left.x positive p.floor_of_x c.requires.from_left in
    let before = from_ceil p.ceil_x p.at.x p.at.w s.right.x positive p.ceil_of_x c.requires.to_right in
    let left : to_z w64 (of_z w64 c.y-left.result) ≡ s.left.y = search (rules, to_z-of_z, c.y-left.ensures.value, c.left.ensures.value) in
    let right : to_z w64 (of_z w64 c.y-right.result) ≡ s.right.y = search (rules, to_z-of_z, c.y-right.ensures.value, c.right.ensures.value) in
    let f : to_z w64 (of_z w64 p.floor_y) ≡ p.floor_y = search (rules, to_z-of_z) in
    let m : to_z w64 (of_z w64 c.min.result) ≡ c.min.result = search (rules, to_z-of_z) in
    let both = both_more p.floor_y c.min.result _ _ c.min.ensures.self_bound c.min.ensures.other_bound (is_less _ _ _ _ f m c.if-spot-min.true) in
    let low = past_floor p.floor_y p.at.y p.at.w s.left.y positive p.floor_of_y (rw left at both.0) in
    let lower = past_floor p.floor_y p.at.y p.at.w s.right.y positive p.floor_of_y (rw right at both.1) in
    below_lower s (point_of p) positive after before low lower

pub returns-then-spot-min-clause-on : goal.returns-then-spot-min-clause-on
returns-then-spot-min-clause-on c =
    let p = c.args.spot.now in
    let s = c.args.seg.now in
    let positive : pos 0 <ℤ p.at.w = omega (arith, ints, p.at.w_low) in
    let after = up_to_floor p.floor_x p.at.x p.at.w s.left.x positive p.floor_of_x c.requires.from_left in
    let before = from_ceil p.ceil_x p.at.x p.at.w s.right.x positive p.ceil_of_x c.requires.to_right in
    let left : to_z w64 (of_z w64 c.y-left.result) ≡ s.left.y = search (rules, to_z-of_z, c.y-left.ensures.value, c.left.ensures.value) in
    let right : to_z w64 (of_z w64 c.y-right.result) ≡ s.right.y = search (rules, to_z-of_z, c.y-right.ensures.value, c.right.ensures.value) in
    let f : to_z w64 (of_z w64 p.floor_y) ≡ p.floor_y = search (rules, to_z-of_z) in
    let m : to_z w64 (of_z w64 c.min.result) ≡ c.min.result = search (rules, to_z-of_z) in
    let both = both_more p.floor_y c.min.result _ _ c.min.ensures.self_bound c.min.ensures.other_bound (is_less _ _ _ _ f m c.if-spot-min.true) in
    let low = past_floor p.floor_y p.at.y p.at.w s.left.y positive p.floor_of_y (rw left at both.0) in
    let lower = past_floor p.floor_y p.at.y p.at.w s.right.y positive p.floor_of_y (rw right at both.1) in
    on_lower s (point_of p) positive after before low lower

pub returns-then-max-spot-clause-below : goal.returns-then-max-spot-clause-below
returns-then-max-spot-clause-below c =
    let p = c.args.spot.now in
    let s = c.args.seg.now in
    let positive : pos 0 <ℤ p.at.w = omega (arith, ints, p.at.w_low) in
    let after = up_to_floor p.floor_x p.at.x p.at.w s.left.x positive p.floor_of_x c.requires.from_left in
    let before = from_ceil p.ceil_x p.at.x p.at.w s.right.x positive p.ceil_of_x c.requires.to_right in
    let left : to_z w64 (of_z w64 c.y-left.result) ≡ s.left.y = search (rules, to_z-of_z, c.y-left.ensures.value, c.left.ensures.value) in
    let right : to_z w64 (of_z w64 c.y-right.result) ≡ s.right.y = search (rules, to_z-of_z, c.y-right.ensures.value, c.right.ensures.value) in
    let f : to_z w64 (of_z w64 p.ceil_y) ≡ p.ceil_y = search (rules, to_z-of_z) in
    let m : to_z w64 (of_z w64 c.max.result) ≡ c.max.result = search (rules, to_z-of_z) in
    let both = both_less p.ceil_y c.max.result _ _ c.max.ensures.self_bound c.max.ensures.other_bound (is_less _ _ _ _ m f c.if-max-spot.true) in
    let high = before_ceil p.ceil_y p.at.y p.at.w s.left.y positive p.ceil_of_y (rw left at both.0) in
    let higher = before_ceil p.ceil_y p.at.y p.at.w s.right.y positive p.ceil_of_y (rw right at both.1) in
    let fx : to_z w64 (of_z w64 p.floor_x) ≡ p.floor_x = search (rules, to_z-of_z) in
    let x : to_z w64 (of_z w64 c.x.result) ≡ s.right.x = search (rules, to_z-of_z, c.x.ensures.value, c.right-then-max-spot.ensures.value) in
    reads_less _ _ _ _ fx x ∙ below_higher s (point_of p) positive after before p.floor_x p.floor_of_x high higher

pub returns-then-max-spot-clause-on : goal.returns-then-max-spot-clause-on
returns-then-max-spot-clause-on c =
    let p = c.args.spot.now in
    let s = c.args.seg.now in
    let positive : pos 0 <ℤ p.at.w = omega (arith, ints, p.at.w_low) in
    let after = up_to_floor p.floor_x p.at.x p.at.w s.left.x positive p.floor_of_x c.requires.from_left in
    let before = from_ceil p.ceil_x p.at.x p.at.w s.right.x positive p.ceil_of_x c.requires.to_right in
    let left : to_z w64 (of_z w64 c.y-left.result) ≡ s.left.y = search (rules, to_z-of_z, c.y-left.ensures.value, c.left.ensures.value) in
    let right : to_z w64 (of_z w64 c.y-right.result) ≡ s.right.y = search (rules, to_z-of_z, c.y-right.ensures.value, c.right.ensures.value) in
    let f : to_z w64 (of_z w64 p.ceil_y) ≡ p.ceil_y = search (rules, to_z-of_z) in
    let m : to_z w64 (of_z w64 c.max.result) ≡ c.max.result = search (rules, to_z-of_z) in
    let both = both_less p.ceil_y c.max.result _ _ c.max.ensures.self_bound c.max.ensures.other_bound (is_less _ _ _ _ m f c.if-max-spot.true) in
    let high = before_ceil p.ceil_y p.at.y p.at.w s.left.y positive p.ceil_of_y (rw left at both.0) in
    let higher = before_ceil p.ceil_y p.at.y p.at.w s.right.y positive p.ceil_of_y (rw right at both.1) in
    on_higher s (point_of p) positive after before high higher
