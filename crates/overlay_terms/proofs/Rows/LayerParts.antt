-- The parts that the values, reaches, inputs and refusals of layers are made of.
use Rattle.std.proofs.Common.{◌≡◌, ℕ, pos, true, false, Some, None, List, [], ◌∷◌, refl, map, codes, arith}
use Rattle.overlay_terms.specs.Plane.{InRange, coordinate_max, segments_of}
use Rattle.overlay_terms.specs.Column.{column_width, IsInPlane, IsInColumn}
use Rattle.overlay_terms.specs.Trees.{leaf, combine, intersection, union, base_bit, definition, Source}
use Rattle.overlay_terms.specs.Layers.{layers_max, Layer, base, derived, named, content_value, values, content_reach, reaches, base_of, derived_of, Marked, marked_segments, source_of, answer_at, outside}
use Rattle.overlay_terms.specs.Commands.{is_derived, uses, is_crowded, refusal_of_use, refusal_of_uses, unknown_layer, later_layer, with_content}
use Rattle.overlay_terms.specs.Orderly.{used_names, is_among}
use Rattle.overlay_terms.specs.Laws.{is_on_any}
use Rattle.overlay_terms.proofs.Rows.Shared.{minus, place, square, base_layer, same_layer}
use Rattle.overlay_terms.proofs.Rows.FirstRun.{first_run}

a_column_is_65536_wide : column_width ≡ 65536
a_column_is_65536_wide = refl

at_most_32_layers_stand : layers_max ≡ 32
at_most_32_layers_stand = refl

the_largest_coordinate_is_in_range : InRange (pos coordinate_max) × InRange (minus coordinate_max)
the_largest_coordinate_is_in_range = ((omega arith, omega arith), (omega arith, omega arith))

half_of_it_is_in_the_plane : IsInPlane (pos coordinate_max) (pos 2)
half_of_it_is_in_the_plane = (omega arith, omega arith)

minus_a_third_is_in_the_column_left_of_zero : IsInColumn 15 (minus 1) (pos 3)
minus_a_third_is_in_the_column_left_of_zero = (omega arith, omega arith)

a_name_finds_what_stands_beside_it : map {B = ℕ} (named 0 ((codes "A", 1) ∷ (codes "B", 2) ∷ (codes "A", 3) ∷ [])) (codes "A" ∷ codes "B" ∷ codes "C" ∷ codes "AA" ∷ []) ≡ 1 ∷ 2 ∷ 0 ∷ 0 ∷ []
a_name_finds_what_stands_beside_it = refl

each_layer_has_its_value_in_order : values first_run (place 7 7) ≡ (codes "A", true) ∷ (codes "B", true) ∷ (codes "I", true) ∷ []
each_layer_has_its_value_in_order = refl

a_definition_has_its_value_from_earlier_ones : map (λ known. content_value (place 7 7) known (derived (combine intersection (leaf (codes "A")) (leaf (codes "B"))))) (((codes "A", true) ∷ (codes "B", true) ∷ []) ∷ ((codes "B", true) ∷ []) ∷ []) ≡ true ∷ false ∷ []
a_definition_has_its_value_from_earlier_ones = refl

each_layer_reaches_itself_first : reaches first_run ≡ (codes "A", codes "A" ∷ []) ∷ (codes "B", codes "B" ∷ []) ∷ (codes "I", codes "I" ∷ codes "A" ∷ codes "B" ∷ []) ∷ []
each_layer_reaches_itself_first = refl

a_name_used_twice_is_reached_twice : content_reach (codes "X") (reaches first_run) (derived (combine union (leaf (codes "I")) (leaf (codes "A")))) ≡ codes "X" ∷ codes "I" ∷ codes "A" ∷ codes "B" ∷ codes "A" ∷ []
a_name_used_twice_is_reached_twice = refl

a_base_layer_has_rings_and_no_expression : base_of (base_layer (codes "A") (square 0 10 ∷ [])) ≡ Some (codes "A", square 0 10 ∷ [])
a_base_layer_has_rings_and_no_expression = refl

a_derived_layer_has_an_expression : map derived_of (base_layer (codes "A") [] ∷ same_layer (codes "J") (codes "A") ∷ []) ≡ None ∷ Some (codes "J", leaf (codes "A")) ∷ []
a_derived_layer_has_an_expression = refl

layers_are_numbered_though_one_is_empty : map (λ (m : Marked). m.layer) (marked_segments ((square 0 1 ∷ []) ∷ [] ∷ (square 0 1 ∷ []) ∷ [])) ≡ 0 ∷ 0 ∷ 0 ∷ 0 ∷ 2 ∷ 2 ∷ 2 ∷ 2 ∷ []
layers_are_numbered_though_one_is_empty = refl

abbrev numbers : List Source
numbers = map (source_of (codes "A" ∷ codes "B" ∷ []) (codes "I" ∷ codes "J" ∷ [])) (codes "B" ∷ codes "J" ∷ codes "Z" ∷ [])

an_unknown_name_is_a_definition_that_is_not_there : numbers ≡ base_bit 1 ∷ definition 1 ∷ definition 2 ∷ []
an_unknown_name_is_a_definition_that_is_not_there = refl

a_layer_without_rings_is_out_everywhere : map (answer_at (base_layer (codes "A") [] ∷ same_layer (codes "J") (codes "A") ∷ []) (codes "J")) (place 0 0 ∷ place 5 5 ∷ []) ≡ outside ∷ outside ∷ []
a_layer_without_rings_is_out_everywhere = refl

an_unknown_layer_is_out_everywhere : answer_at first_run (codes "Z") (place 7 7) ≡ outside
an_unknown_layer_is_out_everywhere = refl

a_definition_uses_what_it_names : map (λ name. uses name (derived (combine intersection (leaf (codes "A")) (leaf (codes "B"))))) (codes "A" ∷ codes "B" ∷ codes "AB" ∷ []) ≡ true ∷ true ∷ false ∷ []
a_definition_uses_what_it_names = refl

rings_use_nothing : map (uses (codes "A")) (base [] ∷ derived (leaf (codes "A")) ∷ []) ≡ false ∷ true ∷ []
rings_use_nothing = refl

one_of_both_is_derived : map is_derived (base [] ∷ derived (leaf (codes "A")) ∷ []) ≡ false ∷ true ∷ []
one_of_both_is_derived = refl

three_layers_are_no_crowd : is_crowded first_run (codes "X") ≡ false
three_layers_are_no_crowd = refl

each_name_has_its_reason : map (refusal_of_use first_run (codes "B")) (codes "A" ∷ codes "B" ∷ codes "I" ∷ codes "Z" ∷ []) ≡ None ∷ Some later_layer ∷ Some later_layer ∷ Some unknown_layer ∷ []
each_name_has_its_reason = refl

the_first_name_with_a_reason_decides : map (refusal_of_uses first_run (codes "B")) ((codes "A" ∷ []) ∷ (codes "A" ∷ codes "I" ∷ codes "Z" ∷ []) ∷ (codes "Z" ∷ codes "I" ∷ []) ∷ []) ≡ None ∷ Some later_layer ∷ Some unknown_layer ∷ []
the_first_name_with_a_reason_decides = refl

content_stands_in_its_place_or_last : map (λ (layers : List Layer). map (λ (layer : Layer). layer.name) layers) (with_content first_run (codes "B") (base []) ∷ with_content first_run (codes "X") (base []) ∷ []) ≡ (codes "A" ∷ codes "B" ∷ codes "I" ∷ []) ∷ (codes "A" ∷ codes "B" ∷ codes "I" ∷ codes "X" ∷ []) ∷ []
content_stands_in_its_place_or_last = refl

names_are_among_those_used : map (is_among (used_names (derived (combine intersection (leaf (codes "A")) (leaf (codes "B")))))) (codes "A" ∷ codes "C" ∷ []) ≡ true ∷ false ∷ []
names_are_among_those_used = refl

a_point_on_one_segment_is_on_any : map (is_on_any (segments_of (square 0 10 ∷ []))) (place 10 2 ∷ place 5 5 ∷ []) ≡ true ∷ false ∷ []
a_point_on_one_segment_is_on_any = refl
