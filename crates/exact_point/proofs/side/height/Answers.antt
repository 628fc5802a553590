use Rattle.std.proofs.Common.{◌∙◌, ap, lit<}
use Rattle.overlay_terms.proofs.Bounds.{read, within_read}
use Rattle.exact_point.proofs.PointBounds.{w_read, w_read_low, y_is, y_read, scaled_is}
use Rattle.exact_point.proofs.Readings.{crossed, narrow_within, offset_is, way_is, whole_is, whole_read}
use Rattle.exact_point.proofs.side.height.Goals as goal

pub minus-wide-requires-clause-a_small : goal.minus-wide-requires-clause-a_small
minus-wide-requires-clause-a_small c = whole_read _ c.x.ensures.in_range

pub minus-wide-requires-clause-b_small : goal.minus-wide-requires-clause-b_small
minus-wide-requires-clause-b_small c = whole_read _ c.x-2.ensures.in_range

pub minus-high-requires-clause-a_small : goal.minus-high-requires-clause-a_small
minus-high-requires-clause-a_small c = whole_read _ c.y.ensures.in_range

pub minus-high-requires-clause-b_small : goal.minus-high-requires-clause-b_small
minus-high-requires-clause-b_small c = whole_read _ c.y-2.ensures.in_range

pub scaled-requires-clause-x_small : goal.scaled-requires-clause-x_small
scaled-requires-clause-x_small c = whole_read _ c.y-3.ensures.in_range

pub scaled-requires-clause-w_low : goal.scaled-requires-clause-w_low
scaled-requires-clause-w_low c = w_read_low c.args.p.now

pub scaled-requires-clause-w_small : goal.scaled-requires-clause-w_small
scaled-requires-clause-w_small c = w_read c.args.p.now

pub offset-up-requires-clause-a_small : goal.offset-up-requires-clause-a_small
offset-up-requires-clause-a_small c = y_read c.args.p.now

pub offset-up-requires-clause-b_small : goal.offset-up-requires-clause-b_small
offset-up-requires-clause-b_small c = within_read _ _ c.scaled.ensures.small (lit< tt)

pub cross-requires-clause-a_small : goal.cross-requires-clause-a_small
cross-requires-clause-a_small c = narrow_within _ _ c.minus-wide.ensures.small (lit< tt)

pub cross-requires-clause-b_small : goal.cross-requires-clause-b_small
cross-requires-clause-b_small c = narrow_within _ _ c.minus-high.ensures.small (lit< tt)

pub cross-requires-clause-c_small : goal.cross-requires-clause-c_small
cross-requires-clause-c_small c = within_read _ _ c.requires.small (lit< tt)

pub cross-requires-clause-d_small : goal.cross-requires-clause-d_small
cross-requires-clause-d_small c = within_read _ _ c.offset-up.ensures.small (lit< tt)

pub returns-clause-small : goal.returns-clause-small
returns-clause-small c = within_read _ _ c.cross.ensures.small (lit< tt)

pub returns-clause-value : goal.returns-clause-value
returns-clause-value c =
    let wide = way_is c.minus-wide.ensures.small c.minus-wide.ensures.value (whole_is c.x.ensures.in_range (c.x.ensures.value ∙ ap (λ p. p.x) c.right-right.ensures.value)) (whole_is c.x-2.ensures.in_range (c.x-2.ensures.value ∙ ap (λ p. p.x) c.left-left.ensures.value)) in
    let high = way_is c.minus-high.ensures.small c.minus-high.ensures.value (whole_is c.y.ensures.in_range (c.y.ensures.value ∙ ap (λ p. p.y) c.right-right.ensures.value)) (whole_is c.y-2.ensures.in_range (c.y-2.ensures.value ∙ ap (λ p. p.y) c.left-left.ensures.value)) in
    let base = scaled_is c.args.p.now c.scaled.ensures.small c.scaled.ensures.value c.y-3.ensures.in_range (c.y-3.ensures.value ∙ ap (λ p. p.y) c.left-left.ensures.value) in
    let up = offset_is c.offset-up.ensures.small c.offset-up.ensures.value (y_is c.args.p.now) base in
    let along = read _ _ c.requires.small (lit< tt) ∙ c.requires.value in
    read _ _ c.cross.ensures.small (lit< tt) ∙ c.cross.ensures.value ∙ crossed _ _ _ _ _ _ _ _ wide high along up
