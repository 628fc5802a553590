use Rattle.std.proofs.Common.{ℕ, ℤ, ◌<◌, ◌≡◌, ◌-ℤ◌, ap, sym, subst, ◌∙◌, arith, to_z, of_z}
use Rattle.std.specs.Int.{w64}
use Rattle.std.proofs.lemmas.Int.{ints}
use Rattle.overlay_terms.specs.Column.{column_count, border}
use Rattle.overlay_terms.specs.Plane.{InRange}
use Rattle.exact_point.specs.Place.{place}
use Rattle.exact_point.proofs.BorderLemmas.{cut_at}
use Rattle.exact_point.proofs.CrossingLemmas.{way_at}
use Rattle.exact_point.proofs.Readings.{way_is, whole_is, whole_read}
use Rattle.exact_point.proofs.point_name.border_point.Goals as goal

border_small : (k : ℕ) → k < column_count → InRange (border k)
border_small k h = (omega (arith, ints, h), omega (arith, ints, h))

-- the x that the code reads is that of the border
reads : (k : ℕ) (x : ℤ) → k < column_count → x ≡ border k → to_z w64 (of_z w64 x) ≡ border k
reads k x few is = whole_is (subst (λ (z : ℤ). InRange z) (sym is) (border_small k few)) is

at_left : (c : goal.After-part_way) → to_z w64 (of_z w64 c.x-left.result) ≡ c.args.seg.now.left.x
at_left c = whole_is c.x-left.ensures.in_range (c.x-left.ensures.value ∙ ap (λ p. p.x) c.left.ensures.value)

at_right : (c : goal.After-part_way) → to_z w64 (of_z w64 c.x-right.result) ≡ c.args.seg.now.right.x
at_right c = whole_is c.x-right.ensures.in_range (c.x-right.ensures.value ∙ ap (λ p. p.x) c.right.ensures.value)

from_left : (c : goal.After-part_way) → to_z w64 (of_z w64 c.minus.result) ≡ border c.args.number -ℤ c.args.seg.now.left.x
from_left c = way_is c.minus.ensures.small c.minus.ensures.value (reads _ _ c.requires.cut.known_column c.requires.over) (at_left c)

whole_way : (c : goal.After-part_way) → to_z w64 (of_z w64 c.minus-2.result) ≡ c.args.seg.now.right.x -ℤ c.args.seg.now.left.x
whole_way c = way_is c.minus-2.ensures.small c.minus-2.ensures.value (at_right c) (at_left c)

pub minus-requires-clause-a_small : goal.minus-requires-clause-a_small
minus-requires-clause-a_small c =
    subst (λ (z : ℤ). InRange z) (sym (reads _ _ c.requires.cut.known_column c.requires.over)) (border_small c.args.number c.requires.cut.known_column)

pub minus-requires-clause-b_small : goal.minus-requires-clause-b_small
minus-requires-clause-b_small c = whole_read _ c.x-left.ensures.in_range

pub minus-requires-2-clause-a_small : goal.minus-requires-2-clause-a_small
minus-requires-2-clause-a_small c = whole_read _ c.x-right.ensures.in_range

pub minus-requires-2-clause-b_small : goal.minus-requires-2-clause-b_small
minus-requires-2-clause-b_small c = whole_read _ c.x-left.ensures.in_range

pub part_way-requires-clause-t_low : goal.part_way-requires-clause-t_low
part_way-requires-clause-t_low c =
    let left = whole_is c.x-left.ensures.in_range (c.x-left.ensures.value ∙ ap (λ p. p.x) c.left.ensures.value) in
    let way = way_is c.minus.ensures.small c.minus.ensures.value (reads _ _ c.requires.cut.known_column c.requires.over) left in
    omega (arith, ints, way, c.requires.cut.after_left)

pub part_way-requires-clause-w_low : goal.part_way-requires-clause-w_low
part_way-requires-clause-w_low c =
    let left = whole_is c.x-left.ensures.in_range (c.x-left.ensures.value ∙ ap (λ p. p.x) c.left.ensures.value) in
    let right = whole_is c.x-right.ensures.in_range (c.x-right.ensures.value ∙ ap (λ p. p.x) c.right.ensures.value) in
    let way = way_is c.minus-2.ensures.small c.minus-2.ensures.value right left in
    omega (arith, ints, way, c.requires.cut.after_left, c.requires.cut.before_right)

pub returns-clause-value : goal.returns-clause-value
returns-clause-value c = way_at _ _ _ _ _ (place c.part_way.result) (from_left c) (whole_way c) c.part_way.ensures

pub returns-clause-stands : goal.returns-clause-stands
returns-clause-stands c =
    cut_at c.args.seg.now c.args.number _ _ (place c.part_way.result) (from_left c) (whole_way c) c.requires.cut c.part_way.ensures
