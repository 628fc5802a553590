use Rattle.std.proofs.Common.{◌∙◌, ap, lit<}
use Rattle.exact_point.proofs.PointBounds.{apart_is, w_near, x_is, x_near, y_is, y_near}
use Rattle.exact_point.proofs.Readings.{narrow_within, near_crossed, way_is, whole_is, whole_read}
use Rattle.exact_point.proofs.side.near_height.Goals as goal

pub minus-requires-clause-a_small : goal.minus-requires-clause-a_small
minus-requires-clause-a_small c = whole_read _ c.x.ensures.in_range

pub minus-requires-clause-b_small : goal.minus-requires-clause-b_small
minus-requires-clause-b_small c = whole_read _ c.x-2.ensures.in_range

pub minus-requires-2-clause-a_small : goal.minus-requires-2-clause-a_small
minus-requires-2-clause-a_small c = whole_read _ c.y.ensures.in_range

pub minus-requires-2-clause-b_small : goal.minus-requires-2-clause-b_small
minus-requires-2-clause-b_small c = whole_read _ c.y-2.ensures.in_range

pub apart-requires-clause-a_small : goal.apart-requires-clause-a_small
apart-requires-clause-a_small c = x_near c.args.p.now c.requires

pub apart-requires-clause-x_small : goal.apart-requires-clause-x_small
apart-requires-clause-x_small c = whole_read _ c.x-3.ensures.in_range

pub apart-requires-clause-w_small : goal.apart-requires-clause-w_small
apart-requires-clause-w_small c = w_near c.args.p.now c.requires

pub apart-requires-2-clause-a_small : goal.apart-requires-2-clause-a_small
apart-requires-2-clause-a_small c = y_near c.args.p.now c.requires

pub apart-requires-2-clause-x_small : goal.apart-requires-2-clause-x_small
apart-requires-2-clause-x_small c = whole_read _ c.y-3.ensures.in_range

pub apart-requires-2-clause-w_small : goal.apart-requires-2-clause-w_small
apart-requires-2-clause-w_small c = w_near c.args.p.now c.requires

pub near_cross-requires-clause-a_small : goal.near_cross-requires-clause-a_small
near_cross-requires-clause-a_small c = narrow_within _ _ c.minus.ensures.small (lit< tt)

pub near_cross-requires-clause-b_small : goal.near_cross-requires-clause-b_small
near_cross-requires-clause-b_small c = narrow_within _ _ c.minus-2.ensures.small (lit< tt)

pub near_cross-requires-clause-c_small : goal.near_cross-requires-clause-c_small
near_cross-requires-clause-c_small c = narrow_within _ _ c.apart.ensures.small (lit< tt)

pub near_cross-requires-clause-d_small : goal.near_cross-requires-clause-d_small
near_cross-requires-clause-d_small c = narrow_within _ _ c.apart-2.ensures.small (lit< tt)

pub returns : goal.returns
returns c =
    let wide = way_is c.minus.ensures.small c.minus.ensures.value (whole_is c.x.ensures.in_range (c.x.ensures.value ∙ ap (λ p. p.x) c.right-right.ensures.value)) (whole_is c.x-2.ensures.in_range (c.x-2.ensures.value ∙ ap (λ p. p.x) c.left-left.ensures.value)) in
    let high = way_is c.minus-2.ensures.small c.minus-2.ensures.value (whole_is c.y.ensures.in_range (c.y.ensures.value ∙ ap (λ p. p.y) c.right-right.ensures.value)) (whole_is c.y-2.ensures.in_range (c.y-2.ensures.value ∙ ap (λ p. p.y) c.left-left.ensures.value)) in
    let along = apart_is c.args.p.now c.apart.ensures.small c.apart.ensures.value (x_is c.args.p.now) c.x-3.ensures.in_range (c.x-3.ensures.value ∙ ap (λ p. p.x) c.left-left.ensures.value) in
    let up = apart_is c.args.p.now c.apart-2.ensures.small c.apart-2.ensures.value (y_is c.args.p.now) c.y-3.ensures.in_range (c.y-3.ensures.value ∙ ap (λ p. p.y) c.left-left.ensures.value) in
    near_crossed (narrow_within _ _ c.minus.ensures.small (lit< tt)) (narrow_within _ _ c.minus-2.ensures.small (lit< tt)) (narrow_within _ _ c.apart.ensures.small (lit< tt)) (narrow_within _ _ c.apart-2.ensures.small (lit< tt)) c.near_cross.ensures wide high along up
