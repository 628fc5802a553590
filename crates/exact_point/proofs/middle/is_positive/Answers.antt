use Rattle.std.proofs.Common.{rules, arith, lit<, ◌≡◌, ◌^◌, ◌+ℤ◌, ◌*ℤ◌, pos, to_z, of_z, FitsSigned}
use Rattle.std.specs.Int.{w128}
use Rattle.std.proofs.lemmas.Int.{ints, to_z-of_z}
use Rattle.overlay_terms.specs.Within.{IsWithin}
use Rattle.overlay_terms.proofs.Bounds.{within_add, within_fits}
use Rattle.exact_point.proofs.MiddleLemmas.{sign_by_parts}
use Rattle.exact_point.proofs.middle.is_positive.Goals as goal

pub returns : goal.returns
returns c =
    let q = c.by_256-carry.result.0 in
    let r = c.by_256-carry.result.1 in
    let value : (pos 256 *ℤ q) +ℤ r ≡ c.args.low = search (rules, to_z-of_z, c.by_256-carry.ensures.value) in
    let rest : IsWithin 255 r = c.by_256-carry.ensures.rest in
    let small : IsWithin (2 ^ 122) q = record { low = omega (arith, ints, value, rest.low, rest.high, c.requires.low_small.low, c.requires.low_small.high); high = omega (arith, ints, value, rest.low, rest.high, c.requires.low_small.low, c.requires.low_small.high) } in
    let fits : FitsSigned w128 (c.args.high +ℤ q) = within_fits _ _ (within_add _ _ _ _ c.requires.high_small small) (lit< tt) in
    let n : to_z w128 (of_z w128 (to_z w128 (of_z w128 c.args.high) +ℤ to_z w128 (of_z w128 q))) ≡ c.args.high +ℤ q = search (rules, to_z-of_z, fits) in
    let t : to_z w128 (of_z w128 r) ≡ r = search (rules, to_z-of_z) in
    sign_by_parts c.args.high c.args.low q r _ _ value rest n t
