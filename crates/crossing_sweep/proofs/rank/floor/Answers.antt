use Rattle.std.proofs.Common.{◌≡◌, ℕ, ℤ, pos, ◌/◌, ◌≤◌, unsigned_abs, to_z, of_z, sym, ap, subst, ◌∙◌, arith}
use Rattle.std.specs.Int.{w64, w128}
use Rattle.std.proofs.lemmas.Int.{ints, to_z-of_z}
use Rattle.overlay_terms.specs.Plane.{InRange}
use Rattle.crossing_sweep.specs.Rank.{IsFloor}
use Rattle.crossing_sweep.proofs.RankLemmas.{floor_of, floor_small, in_range, positive, reads, size_of}
use Rattle.crossing_sweep.proofs.rank.floor.Goals as goal

pub returns-clause-value : goal.returns-clause-value
returns-clause-value c =
    let w : ℤ = c.args.w in
    let v : ℤ = to_z w128 (of_z w128 w) in
    let d : ℕ = unsigned_abs v in
    let n : ℕ = c.from_lowest.result in
    let there : v ≡ w = to_z-of_z w128 w c.ranges.w in
    let few : n / d ≤ 2097152 = floor_small n d (positive w v there c.requires.w_low) c.from_lowest.ensures.small in
    subst (λ z. IsFloor z c.args.x w) (sym (reads (n / d) few)) (floor_of c.args.x w (to_z w128 (of_z w128 c.args.x)) v n d (to_z-of_z w128 c.args.x c.ranges.x) there c.from_lowest.ensures.value (size_of w v there c.requires.w_low) (positive w v there c.requires.w_low))

pub returns-clause-small : goal.returns-clause-small
returns-clause-small c =
    let w : ℤ = c.args.w in
    let v : ℤ = to_z w128 (of_z w128 w) in
    let d : ℕ = unsigned_abs v in
    let n : ℕ = c.from_lowest.result in
    let there : v ≡ w = to_z-of_z w128 w c.ranges.w in
    let few : n / d ≤ 2097152 = floor_small n d (positive w v there c.requires.w_low) c.from_lowest.ensures.small in
    subst InRange (sym (reads (n / d) few)) (in_range (n / d) few)

-- a number over the denominator 1 is its own floor
floor_over_one : (n x : ℤ) → n ≡ x → IsFloor n x (pos 1)
floor_over_one n x e = record { low = omega (arith, ints, e); high = omega (arith, ints, e) }

pub whole-requires : goal.whole-requires
whole-requires c =
    let one : c.args.w ≡ pos 1 = sym (to_z-of_z w128 c.args.w c.ranges.w) ∙ ap (λ n. to_z w128 n) c.if-w-eq1.true in
    let there : to_z w128 (of_z w128 c.args.x) ≡ c.args.x = to_z-of_z w128 c.args.x c.ranges.x in
    (omega (arith, ints, one, there, c.requires.low), omega (arith, ints, one, there, c.requires.high))

pub returns-then-w-eq1-clause-value : goal.returns-then-w-eq1-clause-value
returns-then-w-eq1-clause-value c =
    let one : c.args.w ≡ pos 1 = sym (to_z-of_z w128 c.args.w c.ranges.w) ∙ ap (λ n. to_z w128 n) c.if-w-eq1.true in
    let there : to_z w128 (of_z w128 c.args.x) ≡ c.args.x = to_z-of_z w128 c.args.x c.ranges.x in
    let n : ℤ = to_z w64 (of_z w64 c.whole.result) in
    let is : n ≡ c.args.x = omega (arith, ints, one, there, c.whole.ensures, c.requires.low, c.requires.high) in
    subst (λ (w : ℤ). IsFloor n c.args.x w) (sym one) (floor_over_one n c.args.x is)

pub returns-then-w-eq1-clause-small : goal.returns-then-w-eq1-clause-small
returns-then-w-eq1-clause-small c =
    let one : c.args.w ≡ pos 1 = sym (to_z-of_z w128 c.args.w c.ranges.w) ∙ ap (λ n. to_z w128 n) c.if-w-eq1.true in
    let there : to_z w128 (of_z w128 c.args.x) ≡ c.args.x = to_z-of_z w128 c.args.x c.ranges.x in
    (omega (arith, ints, one, there, c.whole.ensures, c.requires.low, c.requires.high), omega (arith, ints, one, there, c.whole.ensures, c.requires.low, c.requires.high))
