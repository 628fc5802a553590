use Rattle.std.proofs.Common.{ℤ, pos, ◌+ℤ◌, ◌*ℤ◌, lit<, ap, sym, ◌∙◌, to_z, of_z}
use Rattle.std.specs.Int.{w128}
use Rattle.overlay_terms.proofs.Bounds.{read}
use Rattle.exact_point.proofs.NarrowBounds.{narrow_read}
use Rattle.swept_area.specs.Swept.{parts}
use Rattle.swept_area.proofs.Farther.{parts_farther, positive}
use Rattle.swept_area.proofs.places.y_from.Goals as goal

pub returns-clause-value : goal.returns-clause-value
returns-clause-value c =
    read _ _ c.farther.ensures.small (lit< tt) ∙ c.farther.ensures.value
    ∙ ap (λ (z : ℤ). to_z w128 (of_z w128 c.y_parts.result) +ℤ (z *ℤ pos parts)) (narrow_read _ _ c.args.by.now.y_small (lit< tt))
    ∙ ap (λ (z : ℤ). z +ℤ (c.args.by.now.y *ℤ pos parts)) (read _ _ c.y_parts.ensures.small (lit< tt) ∙ c.y_parts.ensures.value)
    ∙ sym (parts_farther c.args.p.now.y c.args.by.now.y c.args.p.now.w (positive c.args.p.now))
