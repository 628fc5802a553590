use Rattle.std.proofs.Common.{ℤ, pos, ◌*ℤ◌, int_div, ap, ◌∙◌, arith, to_z, of_z}
use Rattle.std.specs.Int.{w64}
use Rattle.std.proofs.lemmas.Int.{ints, quot_fits, quot_is}
use Rattle.exact_point.proofs.ReducedLemmas.{exact_quotient}
use Rattle.exact_point.proofs.reducing.near_divided.Goals as goal

pub returns : goal.returns
returns c =
    let a = c.args.a in
    let d : ℤ = pos c.args.divisor in
    ap (λ (z : ℤ). to_z w64 (of_z w64 (int_div (to_z w64 (of_z w64 a)) (to_z w64 (of_z w64 z)))) *ℤ d) c.from.ensures
    ∙ ap (λ z. z *ℤ d) (quot_is w64 a d c.ranges.a (record { sfits = omega arith }) (quot_fits w64 a d c.ranges.a (omega (arith, ints))))
    ∙ exact_quotient a c.args.divisor c.requires.positive c.requires.divides
