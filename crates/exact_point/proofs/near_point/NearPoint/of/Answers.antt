use Rattle.std.proofs.Common.{◌≡◌, ℤ, ap, ◌∙◌, arith, to_z, of_z}
use Rattle.std.specs.Int.{w64, w128}
use Rattle.std.proofs.lemmas.Int.{ints}
use Rattle.exact_point.proofs.NearLemmas.{reads_near, same_numbers}
use Rattle.exact_point.proofs.PointBounds.{w_is, x_is, y_is}
use Rattle.exact_point.proofs.near_point.NearPoint.of.Goals as goal

cut : (n z : ℤ) → n ≡ z → to_z w64 (of_z w64 z) ≡ z → to_z w64 (of_z w64 n) ≡ z
cut n z e f = ap (λ m. to_z w64 (of_z w64 m)) e ∙ f

pub returns : goal.returns
returns c =
    let p = c.args.p.now in
    same_numbers _ p
    (cut _ p.x (x_is p) (reads_near p.x (omega (arith, ints, p.w_high, p.x_low)) c.requires.x))
    (cut _ p.y (y_is p) (reads_near p.y (omega (arith, ints, p.w_high, p.y_low)) c.requires.y))
    (cut _ p.w (w_is p) (reads_near p.w (omega (arith, ints, p.w_low)) (omega (arith, ints, p.w_high))))
