use Rattle.std.proofs.Common.{◌≡◌, ℤ, pos, neg_ℤ, ◌*ℤ◌, ◌≤ℤ◌, ap, ◌∙◌, arith, to_z, of_z, FitsSigned}
use Rattle.std.specs.Int.{w64, w128}
use Rattle.std.proofs.lemmas.Int.{ints, to_z-of_z}
use Rattle.overlay_terms.specs.Plane.{coordinate_max, denominator_max}
use Rattle.exact_point.specs.declared.point.HPoint.{HPoint}
use Rattle.exact_point.proofs.NearLemmas.{reads_wide, same_numbers}
use Rattle.exact_point.proofs.near_point.NearPoint.point.Goals as goal

widened : (n z : ℤ) → n ≡ to_z w64 (of_z w64 z) → FitsSigned w64 z → to_z w128 (of_z w128 z) ≡ z → to_z w128 (of_z w128 n) ≡ z
widened n z e f g = ap (λ m. to_z w128 (of_z w128 m)) (e ∙ to_z-of_z w64 z f) ∙ g

pub returns : goal.returns
returns c =
    let q = c.self.inside in
    same_numbers _ c.args.self
    (widened _ q.x c.from.ensures (record { sfits = c.self.ranges.0.1 }) (reads_wide q.x q.w q.w_high q.x_low q.x_high) ∙ ap (λ (p : HPoint). p.x) c.self.view_is)
    (widened _ q.y c.from-2.ensures (record { sfits = c.self.ranges.1.0.1 }) (reads_wide q.y q.w q.w_high q.y_low q.y_high) ∙ ap (λ (p : HPoint). p.y) c.self.view_is)
    (widened _ q.w c.from-3.ensures (record { sfits = c.self.ranges.1.1.0.1 }) (reads_wide q.w q.w q.w_high (omega (arith, ints, q.w_low)) (omega (arith, ints, q.w_low))) ∙ ap (λ (p : HPoint). p.w) c.self.view_is)
