use Rattle.std.proofs.Common.{◌∙◌, ap, lit<}
use Rattle.overlay_terms.proofs.Bounds.{within_read}
use Rattle.exact_point.proofs.PointBounds.{scaled_is, w_read, w_read_low, x_is, x_read}
use Rattle.exact_point.proofs.Readings.{offset_is, whole_read}
use Rattle.exact_point.proofs.middle.past_right.Goals as goal

pub scaled-requires-clause-x_small : goal.scaled-requires-clause-x_small
scaled-requires-clause-x_small c = whole_read _ c.x.ensures.in_range

pub scaled-requires-clause-w_low : goal.scaled-requires-clause-w_low
scaled-requires-clause-w_low c = w_read_low c.args.p.now

pub scaled-requires-clause-w_small : goal.scaled-requires-clause-w_small
scaled-requires-clause-w_small c = w_read c.args.p.now

pub offset-requires-clause-a_small : goal.offset-requires-clause-a_small
offset-requires-clause-a_small c = x_read c.args.p.now

pub offset-requires-clause-b_small : goal.offset-requires-clause-b_small
offset-requires-clause-b_small c = within_read _ _ c.scaled.ensures.small (lit< tt)

pub returns-clause-value : goal.returns-clause-value
returns-clause-value c = offset_is c.offset.ensures.small c.offset.ensures.value (x_is c.args.p.now) (scaled_is c.args.p.now c.scaled.ensures.small c.scaled.ensures.value c.x.ensures.in_range (c.x.ensures.value ∙ ap (λ p. p.x) c.right.ensures.value))

pub returns-clause-small : goal.returns-clause-small
returns-clause-small c = within_read _ _ c.offset.ensures.small (lit< tt)
