use Rattle.std.proofs.Common.{ℤ, ◌+ℤ◌, lit<, ap, sym, ◌∙◌, subst, to_z, of_z}
use Rattle.std.specs.Int.{w64}
use Rattle.overlay_terms.specs.Plane.{WholePoint}
use Rattle.overlay_terms.proofs.Bounds.{read}
use Rattle.exact_point.proofs.NarrowBounds.{narrow_read}
use Rattle.exact_point.proofs.Readings.{crossed, whole_is}
use Rattle.swept_area.specs.Swept.{length_of}
use Rattle.swept_area.specs.Pieces.{IsNearLine}
use Rattle.swept_area.proofs.Farther.{run_from, rise_from}
use Rattle.swept_area.proofs.LineLemmas.{near_cross}
use Rattle.swept_area.proofs.line.cross_from.Goals as goal

pub returns-clause-value : goal.returns-clause-value
returns-clause-value c =
    let x = c.placed.ensures.value ∙ ap (λ (z : ℤ). to_z w64 (of_z w64 c.x.result) +ℤ z) (narrow_read _ _ c.args.by.now.x_small (lit< tt)) ∙ ap (λ (z : ℤ). z +ℤ c.args.by.now.x) (whole_is c.x.ensures.in_range (c.x.ensures.value ∙ ap (λ (q : WholePoint). q.x) c.left-left.ensures.value)) in
    let y = c.placed-2.ensures.value ∙ ap (λ (z : ℤ). to_z w64 (of_z w64 c.y.result) +ℤ z) (narrow_read _ _ c.args.by.now.y_small (lit< tt)) ∙ ap (λ (z : ℤ). z +ℤ c.args.by.now.y) (whole_is c.y.ensures.in_range (c.y.ensures.value ∙ ap (λ (q : WholePoint). q.y) c.left-left.ensures.value)) in
    read _ _ c.cross.ensures.small (lit< tt) ∙ c.cross.ensures.value
    ∙ crossed _ _ _ _ _ _ _ _ (narrow_read _ _ c.placed.ensures.small (lit< tt) ∙ x) (narrow_read _ _ c.placed-2.ensures.small (lit< tt) ∙ y)
    (narrow_read _ _ c.run.ensures.small (lit< tt) ∙ c.run.ensures.value ∙ sym (run_from c.args.by.now c.args.seg.now))
    (narrow_read _ _ c.rise.ensures.small (lit< tt) ∙ c.rise.ensures.value ∙ sym (rise_from c.args.by.now c.args.seg.now))

pub returns-clause-near : goal.returns-clause-near
returns-clause-near c =
    let value = read _ _ c.cross.ensures.small (lit< tt) ∙ c.cross.ensures.value
    ∙ crossed _ _ _ _ _ _ _ _ (narrow_read _ _ c.placed.ensures.small (lit< tt)) (narrow_read _ _ c.placed-2.ensures.small (lit< tt))
    (narrow_read _ _ c.run.ensures.small (lit< tt) ∙ c.run.ensures.value) (narrow_read _ _ c.rise.ensures.small (lit< tt) ∙ c.rise.ensures.value) in
    subst (λ (z : ℤ). IsNearLine z (length_of c.args.seg.now)) (sym value)
    (near_cross c.args.seg.now c.placed.result c.placed-2.result c.left-left.ensures.first c.placed.ensures.small c.placed-2.ensures.small)
