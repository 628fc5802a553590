use Rattle.std.proofs.Common.{◌∙◌, ap, lit<}
use Rattle.exact_point.proofs.Readings.{narrow_within, way_is, whole_crossed, whole_is, whole_read}
use Rattle.exact_point.proofs.crossing.turn.Goals as goal

pub minus-requires-clause-a_small : goal.minus-requires-clause-a_small
minus-requires-clause-a_small c = whole_read _ c.x.ensures.in_range

pub minus-requires-clause-b_small : goal.minus-requires-clause-b_small
minus-requires-clause-b_small c = whole_read _ c.x-2.ensures.in_range

pub minus-requires-2-clause-a_small : goal.minus-requires-2-clause-a_small
minus-requires-2-clause-a_small c = whole_read _ c.y.ensures.in_range

pub minus-requires-2-clause-b_small : goal.minus-requires-2-clause-b_small
minus-requires-2-clause-b_small c = whole_read _ c.y-2.ensures.in_range

pub minus-requires-3-clause-a_small : goal.minus-requires-3-clause-a_small
minus-requires-3-clause-a_small c = whole_read _ c.x-3.ensures.in_range

pub minus-requires-3-clause-b_small : goal.minus-requires-3-clause-b_small
minus-requires-3-clause-b_small c = whole_read _ c.x-4.ensures.in_range

pub minus-requires-4-clause-a_small : goal.minus-requires-4-clause-a_small
minus-requires-4-clause-a_small c = whole_read _ c.y-3.ensures.in_range

pub minus-requires-4-clause-b_small : goal.minus-requires-4-clause-b_small
minus-requires-4-clause-b_small c = whole_read _ c.y-4.ensures.in_range

pub whole_cross-requires-clause-a_small : goal.whole_cross-requires-clause-a_small
whole_cross-requires-clause-a_small c = narrow_within _ _ c.minus.ensures.small (lit< tt)

pub whole_cross-requires-clause-b_small : goal.whole_cross-requires-clause-b_small
whole_cross-requires-clause-b_small c = narrow_within _ _ c.minus-2.ensures.small (lit< tt)

pub whole_cross-requires-clause-c_small : goal.whole_cross-requires-clause-c_small
whole_cross-requires-clause-c_small c = narrow_within _ _ c.minus-3.ensures.small (lit< tt)

pub whole_cross-requires-clause-d_small : goal.whole_cross-requires-clause-d_small
whole_cross-requires-clause-d_small c = narrow_within _ _ c.minus-4.ensures.small (lit< tt)

pub returns-clause-value : goal.returns-clause-value
returns-clause-value c =
    let first = way_is c.minus.ensures.small c.minus.ensures.value (whole_is c.x.ensures.in_range (c.x.ensures.value ∙ ap (λ p. p.x) c.right-first.ensures.value)) (whole_is c.x-2.ensures.in_range (c.x-2.ensures.value ∙ ap (λ p. p.x) c.left.ensures.value)) in
    let second = way_is c.minus-2.ensures.small c.minus-2.ensures.value (whole_is c.y.ensures.in_range (c.y.ensures.value ∙ ap (λ p. p.y) c.right-first.ensures.value)) (whole_is c.y-2.ensures.in_range (c.y-2.ensures.value ∙ ap (λ p. p.y) c.left-2.ensures.value)) in
    let third = way_is c.minus-3.ensures.small c.minus-3.ensures.value (whole_is c.x-3.ensures.in_range (c.x-3.ensures.value ∙ ap (λ p. p.x) c.right-second.ensures.value)) (whole_is c.x-4.ensures.in_range (c.x-4.ensures.value ∙ ap (λ p. p.x) c.left-3.ensures.value)) in
    let fourth = way_is c.minus-4.ensures.small c.minus-4.ensures.value (whole_is c.y-3.ensures.in_range (c.y-3.ensures.value ∙ ap (λ p. p.y) c.right-second.ensures.value)) (whole_is c.y-4.ensures.in_range (c.y-4.ensures.value ∙ ap (λ p. p.y) c.left-4.ensures.value)) in
    whole_crossed c.whole_cross.ensures.small c.whole_cross.ensures.value first second third fourth

pub returns-clause-small : goal.returns-clause-small
returns-clause-small c = narrow_within _ _ c.whole_cross.ensures.small (lit< tt)
