-- Points are compared by x, then by y, whatever their denominators; segments are below a point, on it, or neither.
use Rattle.std.proofs.Common.{◌≡◌, pos, true, false, Some, None, Less, Equal, Greater, [], ◌∷◌, refl, map}
use Rattle.overlay_terms.specs.Plane.{Segment, whole, whole_cmp, same_whole, point_cmp, same_place, height_over, side_of, is_below, is_on, segment_between, ring_steps, ring_segments}
use Rattle.overlay_terms.specs.Tiles.{is_vertical, is_end, is_on_border, is_node, pair_cmp, midpoint}
use Rattle.overlay_terms.proofs.Rows.Shared.{minus, at, point, part, place}

two_quarters_are_a_half : point_cmp (part 2 2 4) (part 1 1 2) ≡ Equal
two_quarters_are_a_half = refl

they_are_the_same_place : same_place (part 2 2 4) (part 1 1 2) ≡ true
they_are_the_same_place = refl

x_comes_first : point_cmp (part 1 1 2) (place 1 0) ≡ Less
x_comes_first = refl

then_y : map (point_cmp (place 1 1)) (place 1 2 ∷ place 1 1 ∷ place 1 0 ∷ []) ≡ Less ∷ Equal ∷ Greater ∷ []
then_y = refl

the_left_of_zero_comes_first : point_cmp (point (minus 1) (pos 5) 1000) (place 0 0) ≡ Less
the_left_of_zero_comes_first = refl

thirds_are_no_rounded_tenths : same_place (part 1 0 3) (part 3333333333 0 10000000000) ≡ false
thirds_are_no_rounded_tenths = refl

whole_points_have_the_same_order : map (whole_cmp (at (pos 1) (minus 1))) (at (pos 1) (pos 0) ∷ at (pos 1) (minus 1) ∷ at (pos 0) (pos 9) ∷ []) ≡ Less ∷ Equal ∷ Greater ∷ []
whole_points_have_the_same_order = refl

equal_parts_make_a_whole_point_the_same : map (same_whole (at (pos 1) (minus 1))) (at (pos 1) (minus 1) ∷ at (pos 1) (pos 1) ∷ []) ≡ true ∷ false ∷ []
equal_parts_make_a_whole_point_the_same = refl

pairs_go_by_the_left_end_then_by_the_right : map (pair_cmp (place 1 1, place 5 5)) ((place 1 2, place 2 2) ∷ (part 2 2 2, place 5 6) ∷ (place 1 1, part 10 10 2) ∷ []) ≡ Less ∷ Less ∷ Equal ∷ []
pairs_go_by_the_left_end_then_by_the_right = refl

a_segment_begins_at_its_left_end : map segment_between ((at (pos 5) (pos 0), at (pos 1) (pos 9)) ∷ (at (pos 2) (pos 7), at (pos 2) (pos 3)) ∷ (at (pos 2) (pos 3), at (pos 2) (pos 3)) ∷ [])
    ≡ Some (record { left = at (pos 1) (pos 9); right = at (pos 5) (pos 0) }) ∷ Some (record { left = at (pos 2) (pos 3); right = at (pos 2) (pos 7) }) ∷ None ∷ []
a_segment_begins_at_its_left_end = refl

a_ring_of_four_points_has_three_steps : ring_steps (at (pos 0) (pos 0) ∷ at (pos 1) (pos 0) ∷ at (pos 1) (pos 0) ∷ at (pos 0) (pos 0) ∷ [])
    ≡ (at (pos 0) (pos 0), at (pos 1) (pos 0)) ∷ (at (pos 1) (pos 0), at (pos 1) (pos 0)) ∷ (at (pos 1) (pos 0), at (pos 0) (pos 0)) ∷ []
a_ring_of_four_points_has_three_steps = refl

abbrev slope : Segment
slope = record { left = at (pos 0) (pos 0); right = at (pos 4) (pos 2) }

there_and_back_is_one_segment_twice : ring_segments (at (pos 0) (pos 0) ∷ at (pos 4) (pos 2) ∷ at (pos 4) (pos 2) ∷ at (pos 0) (pos 0) ∷ []) ≡ slope ∷ slope ∷ []
there_and_back_is_one_segment_twice = refl

above_on_and_below_its_line : map (side_of slope) (place 2 2 ∷ place 2 1 ∷ part 10 5 1 ∷ place 2 0 ∷ []) ≡ Greater ∷ Equal ∷ Equal ∷ Less ∷ []
above_on_and_below_its_line = refl

the_height_grows_with_y : map (height_over slope) (place 0 0 ∷ place 0 1 ∷ place 0 2 ∷ []) ≡ pos 0 ∷ pos 4 ∷ pos 8 ∷ []
the_height_grows_with_y = refl

left_of_a_vertical_line_is_above : side_of (record { left = at (pos 3) (pos 0); right = at (pos 3) (pos 5) }) (place 2 9) ≡ Greater
left_of_a_vertical_line_is_above = refl

the_left_end_counts_and_the_right_end_does_not : map (is_below slope) (place 0 1 ∷ place 3 9 ∷ place 4 9 ∷ point (minus 1) (pos 9) 1 ∷ []) ≡ true ∷ true ∷ false ∷ false ∷ []
the_left_end_counts_and_the_right_end_does_not = refl

a_point_on_a_segment_is_not_above_it : map (is_below slope) (place 2 1 ∷ part 3 2 2 ∷ []) ≡ false ∷ true ∷ []
a_point_on_a_segment_is_not_above_it = refl

both_ends_are_on_it_and_nothing_behind_them : map (is_on slope) (place 0 0 ∷ part 3 3 6 ∷ part 2 1 2 ∷ place 4 2 ∷ place 6 3 ∷ point (minus 2) (minus 1) 1 ∷ []) ≡ true ∷ false ∷ true ∷ true ∷ false ∷ false ∷ []
both_ends_are_on_it_and_nothing_behind_them = refl

abbrev upright : Segment
upright = record { left = at (pos 3) (pos 0); right = at (pos 3) (pos 5) }

a_vertical_segment_is_below_nothing : map (is_below upright) (place 3 9 ∷ place 2 9 ∷ place 3 3 ∷ []) ≡ false ∷ false ∷ false ∷ []
a_vertical_segment_is_below_nothing = refl

points_lie_on_it_from_end_to_end : map (is_on upright) (place 3 0 ∷ part 6 5 2 ∷ place 3 5 ∷ place 3 6 ∷ place 2 3 ∷ []) ≡ true ∷ true ∷ true ∷ false ∷ false ∷ []
points_lie_on_it_from_end_to_end = refl

one_of_both_is_vertical : map is_vertical (slope ∷ upright ∷ []) ≡ false ∷ true ∷ []
one_of_both_is_vertical = refl

the_middle_of_thirds : same_place (midpoint (part 3 1 3) (part 6 2 3)) (part 3 1 2) ≡ true
the_middle_of_thirds = refl

a_whole_point_has_denominator_one : whole (at (pos 5) (minus 6)) ≡ point (pos 5) (minus 6) 1
a_whole_point_has_denominator_one = refl

each_of_both_ends_is_a_node : map (is_end (slope ∷ [])) (place 0 0 ∷ part 12 6 3 ∷ place 2 1 ∷ []) ≡ true ∷ true ∷ false ∷ []
each_of_both_ends_is_a_node = refl

-- along x = 0, the left border of a column
abbrev on_the_border : Segment
on_the_border = record { left = at (pos 0) (pos 0); right = at (pos 0) (pos 10) }

a_border_does_not_cut_a_segment_that_runs_along_it : map (is_node (on_the_border ∷ [])) (place 0 0 ∷ place 0 5 ∷ place 0 10 ∷ []) ≡ true ∷ false ∷ true ∷ []
a_border_does_not_cut_a_segment_that_runs_along_it = refl

it_cuts_one_that_begins_there : map (is_on_border (slope ∷ [])) (place 0 0 ∷ place 2 1 ∷ []) ≡ true ∷ false ∷ []
it_cuts_one_that_begins_there = refl
