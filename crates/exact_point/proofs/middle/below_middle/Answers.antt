use Rattle.std.proofs.Common.{rules, lit<, lit≤, sym, ◌∙◌, ◌≡◌, ◌^◌, ◌+ℤ◌, ◌-ℤ◌, ◌*ℤ◌, pos, int_lt, to_z, of_z}
use Rattle.std.specs.Int.{w128}
use Rattle.std.proofs.lemmas.Int.{to_z-of_z}
use Rattle.overlay_terms.specs.Plane.{height_over, denominator_max}
use Rattle.overlay_terms.specs.Within.{IsWithin}
use Rattle.overlay_terms.specs.Tiles.{midpoint}
use Rattle.overlay_terms.proofs.Bounds.{read, within_read}
use Rattle.exact_point.specs.Place.{place}
use Rattle.exact_point.specs.declared.point.HPoint.{HPoint}
use Rattle.exact_point.proofs.PointBounds.{w_small}
use Rattle.exact_point.proofs.Comparing.{not_below}
use Rattle.exact_point.proofs.MiddleLemmas.{within_more, middle_along, middle_height, not_before_right, below_between}
use Rattle.exact_point.proofs.middle.below_middle.Goals as goal
use Rattle.exact_point.proofs.middle.below_middle.Goals.{After-sum_of_products, After-sum_of_products-2}

from_left : (c : After-sum_of_products) → to_z w128 (of_z w128 c.sum_of_products.result) ≡ (midpoint (place c.args.from.now) (place c.args.to.now)).x -ℤ (c.args.seg.now.left.x *ℤ (midpoint (place c.args.from.now) (place c.args.to.now)).w)
from_left c =
    let p = place c.args.from.now in
    let q = place c.args.to.now in
    let d : to_z w128 (of_z w128 c.sum_of_products.result) ≡ (c.along-first.result *ℤ q.w) +ℤ (c.along-second.result *ℤ p.w) = search (rules, to_z-of_z, c.sum_of_products.ensures.value) in
    middle_along c.args.seg.now.left.x p q _ _ _ c.along-first.ensures.value c.along-second.ensures.value d

from_right : (c : After-sum_of_products-2) → to_z w128 (of_z w128 c.sum_of_products-2.result) ≡ (midpoint (place c.args.from.now) (place c.args.to.now)).x -ℤ (c.args.seg.now.right.x *ℤ (midpoint (place c.args.from.now) (place c.args.to.now)).w)
from_right c =
    let p = place c.args.from.now in
    let q = place c.args.to.now in
    let d : to_z w128 (of_z w128 c.sum_of_products-2.result) ≡ (c.past_right.result *ℤ q.w) +ℤ (c.past_right-2.result *ℤ p.w) = search (rules, to_z-of_z, c.sum_of_products-2.ensures.value) in
    middle_along c.args.seg.now.right.x p q _ _ _ c.past_right.ensures.value c.past_right-2.ensures.value d

-- the denominator of a point, as the code reads it
w_read : (p : HPoint) → IsWithin denominator_max (to_z w128 (of_z w128 p.w))
w_read p = within_read denominator_max p.w (w_small p) (lit< tt)

pub sum_of_products-requires-clause-a_small : goal.sum_of_products-requires-clause-a_small
sum_of_products-requires-clause-a_small c = within_read _ _ (within_more (2 ^ 64) (2 ^ 78) _ (lit≤ tt) c.along-first.ensures.small) (lit< tt)

pub sum_of_products-requires-clause-v_small : goal.sum_of_products-requires-clause-v_small
sum_of_products-requires-clause-v_small c = w_read c.args.to.now

pub sum_of_products-requires-clause-b_small : goal.sum_of_products-requires-clause-b_small
sum_of_products-requires-clause-b_small c = within_read _ _ (within_more (2 ^ 64) (2 ^ 78) _ (lit≤ tt) c.along-second.ensures.small) (lit< tt)

pub sum_of_products-requires-clause-w_small : goal.sum_of_products-requires-clause-w_small
sum_of_products-requires-clause-w_small c = w_read c.args.from.now

pub sum_of_products-requires-2-clause-a_small : goal.sum_of_products-requires-2-clause-a_small
sum_of_products-requires-2-clause-a_small c = within_read _ _ (within_more (2 ^ 64) (2 ^ 78) _ (lit≤ tt) c.past_right.ensures.small) (lit< tt)

pub sum_of_products-requires-2-clause-b_small : goal.sum_of_products-requires-2-clause-b_small
sum_of_products-requires-2-clause-b_small c = within_read _ _ (within_more (2 ^ 64) (2 ^ 78) _ (lit≤ tt) c.past_right-2.ensures.small) (lit< tt)

pub sum_of_products-requires-2-clause-v_small : goal.sum_of_products-requires-2-clause-v_small
sum_of_products-requires-2-clause-v_small c = w_read c.args.to.now

pub sum_of_products-requires-2-clause-w_small : goal.sum_of_products-requires-2-clause-w_small
sum_of_products-requires-2-clause-w_small c = w_read c.args.from.now

pub height-requires-clause-value : goal.height-requires-clause-value
height-requires-clause-value c = read _ _ c.along-first.ensures.small (lit< tt) ∙ c.along-first.ensures.value

pub height-requires-clause-small : goal.height-requires-clause-small
height-requires-clause-small c = within_read _ _ c.along-first.ensures.small (lit< tt)

pub height-requires-2-clause-value : goal.height-requires-2-clause-value
height-requires-2-clause-value c = read _ _ c.along-second.ensures.small (lit< tt) ∙ c.along-second.ensures.value

pub height-requires-2-clause-small : goal.height-requires-2-clause-small
height-requires-2-clause-small c = within_read _ _ c.along-second.ensures.small (lit< tt)

pub is_sum_positive-requires-clause-a_small : goal.is_sum_positive-requires-clause-a_small
is_sum_positive-requires-clause-a_small c = within_read _ _ c.height.ensures.small (lit< tt)

pub is_sum_positive-requires-clause-v_small : goal.is_sum_positive-requires-clause-v_small
is_sum_positive-requires-clause-v_small c = w_read c.args.to.now

pub is_sum_positive-requires-clause-b_small : goal.is_sum_positive-requires-clause-b_small
is_sum_positive-requires-clause-b_small c = within_read _ _ c.height-2.ensures.small (lit< tt)

pub is_sum_positive-requires-clause-w_small : goal.is_sum_positive-requires-clause-w_small
is_sum_positive-requires-clause-w_small c = w_read c.args.from.now

pub returns-then-sum_of_products-lt0 : goal.returns-then-sum_of_products-lt0
returns-then-sum_of_products-lt0 c =
    not_below c.args.seg.now (midpoint (place c.args.from.now) (place c.args.to.now)) _ (from_left (goal.at.returns-then-sum_of_products-lt0 c).After-sum_of_products) c.if-sum_of_products-lt0.true

pub returns-then-sum_of_products-ge0 : goal.returns-then-sum_of_products-ge0
returns-then-sum_of_products-ge0 c =
    not_before_right c.args.seg.now (midpoint (place c.args.from.now) (place c.args.to.now)) _ (from_right (goal.at.returns-then-sum_of_products-ge0 c).After-sum_of_products-2) c.if-sum_of_products-ge0.true

pub returns : goal.returns
returns c =
    let p = place c.args.from.now in
    let q = place c.args.to.now in
    let s = c.args.seg.now in
    let sum : c.is_sum_positive.result ≡ int_lt (pos 0) ((height_over s p *ℤ q.w) +ℤ (height_over s q *ℤ p.w)) = search (rules, to_z-of_z, c.is_sum_positive.ensures, c.height.ensures.value, c.height-2.ensures.value) in
    sum
    ∙ below_between s (midpoint p q) _ _ _ (from_left (goal.at.returns c).After-sum_of_products) c.if-sum_of_products-lt0.false (from_right (goal.at.returns c).After-sum_of_products-2) c.if-sum_of_products-ge0.false (sym (middle_height s p q))
