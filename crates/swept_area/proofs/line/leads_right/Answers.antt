use Rattle.std.proofs.Common.{ℤ, pos, unsigned_abs, refl, lit<, ap, ◌∙◌}
use Rattle.exact_point.proofs.NarrowBounds.{narrow_read}
use Rattle.swept_area.proofs.line.leads_right.Goals as goal

pub returns : goal.returns
returns c =
    let rise = narrow_read _ _ c.rise.ensures.small (lit< tt) ∙ c.rise.ensures.value in
    let size = narrow_read _ _ c.size.ensures.small (lit< tt) ∙ c.size.ensures.value ∙ ap (λ (z : ℤ). pos (unsigned_abs z)) rise in
    let run = narrow_read _ _ c.run.ensures.small (lit< tt) ∙ c.run.ensures.value in
    rw (size, run) refl
