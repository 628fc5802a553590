use Rattle.std.proofs.Common.{rules, ◌≡◌, arith, to_z, of_z}
use Rattle.std.specs.Int.{w64}
use Rattle.std.proofs.lemmas.Int.{ints, to_z-of_z}
use Rattle.point_looks.specs.Spot.{point_of}
use Rattle.point_looks.proofs.LookLemmas.{before_ceil, is_less}
use Rattle.point_looks.proofs.blocks.is_lower.Goals as goal

pub returns : goal.returns
returns c =
    let p = point_of c.args.spot.now in
    let b = c.args.bounds.now in
    let h : to_z w64 (of_z w64 b.high_y) ≡ b.high_y = search (rules, to_z-of_z) in
    let y : to_z w64 (of_z w64 c.ceil_y.result) ≡ c.ceil_y.result = search (rules, to_z-of_z) in
    λ t. before_ceil c.ceil_y.result p.y p.w b.high_y (omega (arith, ints, c.args.spot.now.at.w_low)) c.ceil_y.ensures (is_less _ _ _ _ h y t)
