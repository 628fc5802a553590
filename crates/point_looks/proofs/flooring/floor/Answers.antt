use Rattle.std.proofs.Common.{rules, ◌≡◌, ℤ, pos, to_z, of_z, sym, ap, subst, ◌∙◌, arith}
use Rattle.std.specs.Int.{w64, w128}
use Rattle.std.proofs.lemmas.Int.{ints, to_z-of_z}
use Rattle.point_looks.specs.Floor.{IsFloor}
use Rattle.point_looks.proofs.FloorLemmas.{counted, floor_fits, floor_read, floor_small}
use Rattle.point_looks.proofs.flooring.floor.Goals as goal

pub overflow_sub-result : goal.overflow_sub-result
overflow_sub-result c =
    let x : to_z w128 (of_z w128 c.args.x) ≡ c.args.x = search (rules, to_z-of_z) in
    let w : to_z w128 (of_z w128 c.args.w) ≡ c.args.w = search (rules, to_z-of_z) in
    let count = counted c.whole_part-steps.result c.from_edge.result _ _ c.args.x c.args.w x w c.requires.w_low c.from_edge.ensures c.whole_part-steps.ensures.low c.whole_part-steps.ensures.high in
    floor_fits _ _ _ _ _ c.requires.w_low count c.requires.x_high

pub returns-clause-value : goal.returns-clause-value
returns-clause-value c =
    let x : to_z w128 (of_z w128 c.args.x) ≡ c.args.x = search (rules, to_z-of_z) in
    let w : to_z w128 (of_z w128 c.args.w) ≡ c.args.w = search (rules, to_z-of_z) in
    let count = counted c.whole_part-steps.result c.from_edge.result _ _ c.args.x c.args.w x w c.requires.w_low c.from_edge.ensures c.whole_part-steps.ensures.low c.whole_part-steps.ensures.high in
    floor_read _ _ _ _ _ c.requires.w_low count c.requires.x_high

pub returns-clause-small : goal.returns-clause-small
returns-clause-small c =
    let x : to_z w128 (of_z w128 c.args.x) ≡ c.args.x = search (rules, to_z-of_z) in
    let w : to_z w128 (of_z w128 c.args.w) ≡ c.args.w = search (rules, to_z-of_z) in
    let count = counted c.whole_part-steps.result c.from_edge.result _ _ c.args.x c.args.w x w c.requires.w_low c.from_edge.ensures c.whole_part-steps.ensures.low c.whole_part-steps.ensures.high in
    floor_small _ _ _ _ _ c.requires.w_low count c.requires.x_high

-- a number over the denominator 1 is its own floor
floor_over_one : (n x : ℤ) → n ≡ x → IsFloor n x (pos 1)
floor_over_one n x e = record { low = omega (arith, ints, e); high = omega (arith, ints, e) }

pub whole-requires : goal.whole-requires
whole-requires c =
    let one : c.args.w ≡ pos 1 = sym (to_z-of_z w128 c.args.w c.ranges.w) ∙ ap (λ n. to_z w128 n) c.if-w-eq1.true in
    let there : to_z w128 (of_z w128 c.args.x) ≡ c.args.x = to_z-of_z w128 c.args.x c.ranges.x in
    record { low = omega (arith, ints, one, there, c.requires.x_low); high = omega (arith, ints, one, there, c.requires.x_high) }

pub returns-then-w-eq1-clause-value : goal.returns-then-w-eq1-clause-value
returns-then-w-eq1-clause-value c =
    let one : c.args.w ≡ pos 1 = sym (to_z-of_z w128 c.args.w c.ranges.w) ∙ ap (λ n. to_z w128 n) c.if-w-eq1.true in
    let there : to_z w128 (of_z w128 c.args.x) ≡ c.args.x = to_z-of_z w128 c.args.x c.ranges.x in
    let n : ℤ = to_z w64 (of_z w64 c.whole.result) in
    let is : n ≡ c.args.x = omega (arith, ints, one, there, c.whole.ensures, c.requires.x_low, c.requires.x_high) in
    subst (λ (w : ℤ). IsFloor n c.args.x w) (sym one) (floor_over_one n c.args.x is)

pub returns-then-w-eq1-clause-small : goal.returns-then-w-eq1-clause-small
returns-then-w-eq1-clause-small c =
    let one : c.args.w ≡ pos 1 = sym (to_z-of_z w128 c.args.w c.ranges.w) ∙ ap (λ n. to_z w128 n) c.if-w-eq1.true in
    let there : to_z w128 (of_z w128 c.args.x) ≡ c.args.x = to_z-of_z w128 c.args.x c.ranges.x in
    record { low = omega (arith, ints, one, there, c.whole.ensures, c.requires.x_low, c.requires.x_high); high = omega (arith, ints, one, there, c.whole.ensures, c.requires.x_low, c.requires.x_high) }
