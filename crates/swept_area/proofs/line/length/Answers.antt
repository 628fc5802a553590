use Rattle.std.proofs.Common.{ℤ, pos, ◌<ℤ◌, unsigned_abs, lit<, ap, sym, subst, ◌∙◌}
use Rattle.exact_point.proofs.NarrowBounds.{narrow_read}
use Rattle.swept_area.proofs.LineLemmas.{flat_length, steep_length, length_positive}
use Rattle.swept_area.proofs.line.length.Goals as goal

pub returns-then-leads_right-clause-value : goal.returns-then-leads_right-clause-value
returns-then-leads_right-clause-value c =
    narrow_read _ _ c.run.ensures.small (lit< tt) ∙ c.run.ensures.value
    ∙ sym (flat_length c.args.seg.now (sym c.leads_right.ensures ∙ c.if-leads_right.true))

pub returns-then-leads_right-clause-low : goal.returns-then-leads_right-clause-low
returns-then-leads_right-clause-low c =
    subst (λ (z : ℤ). pos 0 <ℤ z) (sym (returns-then-leads_right-clause-value c)) (length_positive c.args.seg.now c.run.ensures.first)

pub returns-clause-value : goal.returns-clause-value
returns-clause-value c =
    narrow_read _ _ c.size.ensures.small (lit< tt) ∙ c.size.ensures.value
    ∙ ap (λ (z : ℤ). pos (unsigned_abs z)) (narrow_read _ _ c.rise.ensures.small (lit< tt) ∙ c.rise.ensures.value)
    ∙ sym (steep_length c.args.seg.now (sym c.leads_right.ensures ∙ c.if-leads_right.false))

pub returns-clause-low : goal.returns-clause-low
returns-clause-low c =
    subst (λ (z : ℤ). pos 0 <ℤ z) (sym (returns-clause-value c)) (length_positive c.args.seg.now c.rise.ensures.first)
