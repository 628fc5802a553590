use Rattle.std.proofs.Common.{◌≡◌, pos, neg_ℤ, ◌+ℤ◌, ◌-ℤ◌, ◌*ℤ◌, ◌∙◌, refl, lit<, arith, to_z, of_z}
use Rattle.std.specs.Int.{w128}
use Rattle.std.proofs.lemmas.Int.{ints}
use Rattle.overlay_terms.proofs.Bounds.{within_read}
use Rattle.exact_point.proofs.NarrowBounds.{narrow_read}
use Rattle.exact_point.proofs.CrossingLemmas.{mean_low, mean_high}
use Rattle.exact_point.proofs.Readings.{multiply, narrow_within, part_small, sum_is, way_is, way_small, whole_is, whole_read, whole_within}
use Rattle.exact_point.proofs.crossing.between.Goals as goal

at_place : (c : goal.After-sum) → to_z w128 (of_z w128 c.sum.result) ≡ (c.args.from *ℤ c.args.w) +ℤ ((c.args.to -ℤ c.args.from) *ℤ c.args.t)
at_place c =
    let way = way_is c.minus.ensures.small c.minus.ensures.value (whole_is c.requires.to_small refl) (whole_is c.requires.from_small refl) in
    let w = narrow_read _ _ (way_small _ _ c.requires.t_low c.requires.t_high c.requires.w_high) (lit< tt) in
    let t = narrow_read _ _ (part_small _ _ c.requires.t_low c.requires.t_high c.requires.w_high) (lit< tt) in
    sum_is c.wide.ensures.small c.wide-2.ensures.small c.sum.ensures
    (c.wide.ensures.value ∙ multiply _ _ _ _ (whole_is c.requires.from_small refl) w) (c.wide-2.ensures.value ∙ multiply _ _ _ _ way t)

pub wide-requires-clause-a_small : goal.wide-requires-clause-a_small
wide-requires-clause-a_small c = whole_within _ c.requires.from_small

pub wide-requires-clause-w_small : goal.wide-requires-clause-w_small
wide-requires-clause-w_small c = narrow_within _ _ (way_small _ _ c.requires.t_low c.requires.t_high c.requires.w_high) (lit< tt)

pub minus-requires-clause-a_small : goal.minus-requires-clause-a_small
minus-requires-clause-a_small c = whole_read _ c.requires.to_small

pub minus-requires-clause-b_small : goal.minus-requires-clause-b_small
minus-requires-clause-b_small c = whole_read _ c.requires.from_small

pub wide-requires-2-clause-a_small : goal.wide-requires-2-clause-a_small
wide-requires-2-clause-a_small c = narrow_within _ _ c.minus.ensures.small (lit< tt)

pub wide-requires-2-clause-w_small : goal.wide-requires-2-clause-w_small
wide-requires-2-clause-w_small c = narrow_within _ _ (part_small _ _ c.requires.t_low c.requires.t_high c.requires.w_high) (lit< tt)

pub sum-requires-clause-a_small : goal.sum-requires-clause-a_small
sum-requires-clause-a_small c = within_read _ _ c.wide.ensures.small (lit< tt)

pub sum-requires-clause-b_small : goal.sum-requires-clause-b_small
sum-requires-clause-b_small c = within_read _ _ c.wide-2.ensures.small (lit< tt)

pub returns-clause-value : goal.returns-clause-value
returns-clause-value c = at_place c

pub returns-clause-low : goal.returns-clause-low
returns-clause-low c =
    let bound = mean_low (neg_ℤ (pos 1048576)) c.args.from c.args.to c.args.t c.args.w c.requires.from_small.0 c.requires.to_small.0 c.requires.t_low c.requires.t_high in
    rw (at_place c) (omega (arith, ints, bound))

pub returns-clause-high : goal.returns-clause-high
returns-clause-high c = rw (at_place c) (mean_high (pos 1048576) c.args.from c.args.to c.args.t c.args.w c.requires.from_small.1 c.requires.to_small.1 c.requires.t_low c.requires.t_high)
