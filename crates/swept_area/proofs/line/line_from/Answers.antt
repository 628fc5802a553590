use Rattle.std.proofs.Common.{lit<, sym, ◌∙◌}
use Rattle.exact_point.proofs.NarrowBounds.{widened}
use Rattle.swept_area.proofs.Farther.{flat_from, length_from}
use Rattle.swept_area.proofs.line.line_from.Goals as goal

pub returns-clause-flat : goal.returns-clause-flat
returns-clause-flat c = c.leads_right.ensures ∙ sym (flat_from c.args.by.now c.args.seg.now)

pub returns-clause-length : goal.returns-clause-length
returns-clause-length c =
    (widened c.length.ensures.small (lit< tt) c.from.ensures).is ∙ c.length.ensures.value ∙ sym (length_from c.args.by.now c.args.seg.now)
