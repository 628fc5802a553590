use Rattle.std.proofs.Common.{rules, ◌≡◌, arith, to_z, of_z}
use Rattle.std.specs.Int.{w64}
use Rattle.std.proofs.lemmas.Int.{ints, to_z-of_z}
use Rattle.plane_base.proofs.bounds.Bounds.with.Goals as goal

pub returns-clause-added : goal.returns-clause-added
returns-clause-added c =
    let s = c.args.seg.now in
    let low_x : to_z w64 (of_z w64 c.min.result) ≡ c.min.result = search (rules, to_z-of_z) in
    let high_x : to_z w64 (of_z w64 c.max.result) ≡ c.max.result = search (rules, to_z-of_z) in
    let some_low_y : to_z w64 (of_z w64 c.min-2.result) ≡ c.min-2.result = search (rules, to_z-of_z) in
    let low_y : to_z w64 (of_z w64 c.min-3.result) ≡ c.min-3.result = search (rules, to_z-of_z) in
    let some_high_y : to_z w64 (of_z w64 c.max-2.result) ≡ c.max-2.result = search (rules, to_z-of_z) in
    let high_y : to_z w64 (of_z w64 c.max-3.result) ≡ c.max-3.result = search (rules, to_z-of_z) in
    let left_x : to_z w64 (of_z w64 c.x.result) ≡ s.left.x = search (rules, to_z-of_z, c.x.ensures.value, c.left-left.ensures.value) in
    let right_x : to_z w64 (of_z w64 c.x-2.result) ≡ s.right.x = search (rules, to_z-of_z, c.x-2.ensures.value, c.right-right.ensures.value) in
    let left_y : to_z w64 (of_z w64 c.y.result) ≡ s.left.y = search (rules, to_z-of_z, c.y.ensures.value, c.left-left.ensures.value) in
    let right_y : to_z w64 (of_z w64 c.y-2.result) ≡ s.right.y = search (rules, to_z-of_z, c.y-2.ensures.value, c.right-right.ensures.value) in
    let left_y-2 : to_z w64 (of_z w64 c.y-3.result) ≡ s.left.y = search (rules, to_z-of_z, c.y-3.ensures.value, c.left-left.ensures.value) in
    let right_y-2 : to_z w64 (of_z w64 c.y-4.result) ≡ s.right.y = search (rules, to_z-of_z, c.y-4.ensures.value, c.right-right.ensures.value) in
    record {
      left_x = omega (arith, ints, low_x, left_x, c.min.ensures.other_bound);
      right_x = omega (arith, ints, high_x, right_x, c.max.ensures.other_bound);
      left_low = omega (arith, ints, low_y, some_low_y, left_y, c.min-3.ensures.self_bound, c.min-2.ensures.other_bound);
      left_high = omega (arith, ints, high_y, some_high_y, left_y-2, c.max-3.ensures.self_bound, c.max-2.ensures.other_bound);
      right_low = omega (arith, ints, low_y, right_y, c.min-3.ensures.other_bound);
      right_high = omega (arith, ints, high_y, right_y-2, c.max-3.ensures.other_bound);
    }

pub returns-clause-kept : goal.returns-clause-kept
returns-clause-kept c =
    let b = c.args.self in
    let low_x : to_z w64 (of_z w64 c.min.result) ≡ c.min.result = search (rules, to_z-of_z) in
    let high_x : to_z w64 (of_z w64 c.max.result) ≡ c.max.result = search (rules, to_z-of_z) in
    let some_low_y : to_z w64 (of_z w64 c.min-2.result) ≡ c.min-2.result = search (rules, to_z-of_z) in
    let low_y : to_z w64 (of_z w64 c.min-3.result) ≡ c.min-3.result = search (rules, to_z-of_z) in
    let some_high_y : to_z w64 (of_z w64 c.max-2.result) ≡ c.max-2.result = search (rules, to_z-of_z) in
    let high_y : to_z w64 (of_z w64 c.max-3.result) ≡ c.max-3.result = search (rules, to_z-of_z) in
    let was_low_x : to_z w64 (of_z w64 b.low_x) ≡ b.low_x = search (rules, to_z-of_z) in
    let was_high_x : to_z w64 (of_z w64 b.high_x) ≡ b.high_x = search (rules, to_z-of_z) in
    let was_low_y : to_z w64 (of_z w64 b.low_y) ≡ b.low_y = search (rules, to_z-of_z) in
    let was_high_y : to_z w64 (of_z w64 b.high_y) ≡ b.high_y = search (rules, to_z-of_z) in
    λ s h. record {
      left_x = omega (arith, ints, low_x, was_low_x, c.min.ensures.self_bound, h.left_x);
      right_x = omega (arith, ints, high_x, was_high_x, c.max.ensures.self_bound, h.right_x);
      left_low = omega (arith, ints, low_y, some_low_y, was_low_y, c.min-3.ensures.self_bound, c.min-2.ensures.self_bound, h.left_low);
      left_high = omega (arith, ints, high_y, some_high_y, was_high_y, c.max-3.ensures.self_bound, c.max-2.ensures.self_bound, h.left_high);
      right_low = omega (arith, ints, low_y, some_low_y, was_low_y, c.min-3.ensures.self_bound, c.min-2.ensures.self_bound, h.right_low);
      right_high = omega (arith, ints, high_y, some_high_y, was_high_y, c.max-3.ensures.self_bound, c.max-2.ensures.self_bound, h.right_high);
    }
