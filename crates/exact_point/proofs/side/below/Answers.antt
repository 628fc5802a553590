use Rattle.std.proofs.Common.{◌∙◌, ap, lit<}
use Rattle.overlay_terms.proofs.Bounds.{read, within_read}
use Rattle.exact_point.specs.Place.{place}
use Rattle.exact_point.proofs.Comparing.{not_below, below_by_height, past_end}
use Rattle.exact_point.proofs.PointBounds.{scaled_is, w_read, w_read_low, x_is}
use Rattle.exact_point.proofs.Readings.{whole_read}
use Rattle.exact_point.proofs.side.below.Goals as goal

pub returns-then-along-lt0 : goal.returns-then-along-lt0
returns-then-along-lt0 c = not_below c.args.seg.now (place c.args.p.now) _ (read _ _ c.along-along.ensures.small (lit< tt) ∙ c.along-along.ensures.value) c.if-along-lt0.true

pub scaled-requires-clause-x_small : goal.scaled-requires-clause-x_small
scaled-requires-clause-x_small c = whole_read _ c.x.ensures.in_range

pub scaled-requires-clause-w_low : goal.scaled-requires-clause-w_low
scaled-requires-clause-w_low c = w_read_low c.args.p.now

pub scaled-requires-clause-w_small : goal.scaled-requires-clause-w_small
scaled-requires-clause-w_small c = w_read c.args.p.now

pub returns-then-scaled-p : goal.returns-then-scaled-p
returns-then-scaled-p c =
    let r = scaled_is c.args.p.now c.scaled.ensures.small c.scaled.ensures.value c.x.ensures.in_range (c.x.ensures.value ∙ ap (λ p. p.x) c.right.ensures.value) in
    past_end c.args.seg.now (place c.args.p.now) _ _ r (x_is c.args.p.now) c.if-scaled-p.true

pub height-requires-clause-value : goal.height-requires-clause-value
height-requires-clause-value c = read _ _ c.along-along.ensures.small (lit< tt) ∙ c.along-along.ensures.value

pub height-requires-clause-small : goal.height-requires-clause-small
height-requires-clause-small c = within_read _ _ c.along-along.ensures.small (lit< tt)

pub returns : goal.returns
returns c =
    let r = scaled_is c.args.p.now c.scaled.ensures.small c.scaled.ensures.value c.x.ensures.in_range (c.x.ensures.value ∙ ap (λ p. p.x) c.right.ensures.value) in
    let h = read _ _ c.height.ensures.small (lit< tt) ∙ c.height.ensures.value in
    below_by_height c.args.seg.now (place c.args.p.now) _ _ _ _ (read _ _ c.along-along.ensures.small (lit< tt) ∙ c.along-along.ensures.value) c.if-along-lt0.false r (x_is c.args.p.now) c.if-scaled-p.false h
