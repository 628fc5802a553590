-- Which tiles a command touches, under definitions that name one another. All segments lie in column 16.
use Rattle.std.proofs.Common.{◌≡◌, ℕ, true, false, List, [], ◌∷◌, ◌++◌, refl, map, reverse, codes}
use Rattle.overlay_terms.specs.Column.{columns}
use Rattle.overlay_terms.specs.Trees.{leaf, combine, intersection, union, difference, base_bit, definition}
use Rattle.overlay_terms.specs.Layers.{Name, Layer, Marked, layers_in_reach, segments_in_reach, steps_in_reach}
use Rattle.overlay_terms.specs.Commands.{put, define, remove}
use Rattle.overlay_terms.specs.Touched.{touched_tiles, reaches_name, derived_over}
use Rattle.overlay_terms.proofs.Rows.Shared.{square, base_layer, same_layer, made_layer}

-- I is A & B, C is alone, J is I | C, and L is B
abbrev pub layers : List Layer
layers =
    base_layer (codes "A") (square 0 10 ∷ []) ∷ base_layer (codes "B") (square 5 15 ∷ []) ∷ made_layer (codes "I") intersection (codes "A") (codes "B")
    ∷ base_layer (codes "C") (square 20 30 ∷ []) ∷ made_layer (codes "J") union (codes "I") (codes "C") ∷ same_layer (codes "L") (codes "B") ∷ []

abbrev names : List Layer → List Name
names layers = map (λ (layer : Layer). layer.name) layers

j_reaches_all_below_it_in_their_order : names (layers_in_reach layers (codes "J")) ≡ codes "A" ∷ codes "B" ∷ codes "I" ∷ codes "C" ∷ codes "J" ∷ []
j_reaches_all_below_it_in_their_order = refl

l_reaches_b_and_itself : names (layers_in_reach layers (codes "L")) ≡ codes "B" ∷ codes "L" ∷ []
l_reaches_b_and_itself = refl

a_base_layer_reaches_itself : names (layers_in_reach layers (codes "C")) ≡ codes "C" ∷ []
a_base_layer_reaches_itself = refl

an_unknown_name_reaches_nothing : names (layers_in_reach layers (codes "Z")) ≡ []
an_unknown_name_reaches_nothing = refl

bases_and_definitions_are_numbered_apart : steps_in_reach layers (codes "J") ≡ record { bases = 3; definitions = combine intersection (leaf (base_bit 0)) (leaf (base_bit 1)) ∷ combine union (leaf (definition 0)) (leaf (base_bit 2)) ∷ [] }
bases_and_definitions_are_numbered_apart = refl

numbers_count_what_is_in_reach : steps_in_reach layers (codes "L") ≡ record { bases = 1; definitions = leaf (base_bit 0) ∷ [] }
numbers_count_what_is_in_reach = refl

segments_carry_these_numbers : map (λ (m : Marked). m.layer) (segments_in_reach layers (codes "J")) ≡ 0 ∷ 0 ∷ 0 ∷ 0 ∷ 1 ∷ 1 ∷ 1 ∷ 1 ∷ 2 ∷ 2 ∷ 2 ∷ 2 ∷ []
segments_carry_these_numbers = refl

abbrev in_all : Name → List (Name × ℕ)
in_all name = map (λ k. (name, k)) columns

a_put_touches_what_stands_over_it_where_segments_change : map (λ name. touched_tiles layers (put name [])) (codes "A" ∷ codes "B" ∷ codes "C" ∷ []) ≡ ((codes "I", 16) ∷ (codes "J", 16) ∷ []) ∷ ((codes "I", 16) ∷ (codes "J", 16) ∷ (codes "L", 16) ∷ []) ∷ ((codes "J", 16) ∷ []) ∷ []
a_put_touches_what_stands_over_it_where_segments_change = refl

the_same_rings_touch_nothing : touched_tiles layers (put (codes "B") (square 5 15 ∷ [])) ≡ []
the_same_rings_touch_nothing = refl

the_order_of_segments_counts : touched_tiles layers (put (codes "C") (reverse (square 20 30) ∷ [])) ≡ (codes "J", 16) ∷ []
the_order_of_segments_counts = refl

a_new_base_layer_touches_nothing : touched_tiles layers (put (codes "X") (square 0 10 ∷ [])) ≡ []
a_new_base_layer_touches_nothing = refl

another_operation_touches_all_tiles_of_what_stands_over_it : touched_tiles layers (define (codes "I") (combine difference (leaf (codes "A")) (leaf (codes "B")))) ≡ in_all (codes "I") ++ in_all (codes "J")
another_operation_touches_all_tiles_of_what_stands_over_it = refl

a_definition_that_changes_nothing_touches_nothing : touched_tiles layers (define (codes "I") (combine intersection (leaf (codes "A")) (leaf (codes "B")))) ≡ []
a_definition_that_changes_nothing_touches_nothing = refl

another_base_layer_in_the_same_part_touches_where_segments_differ : touched_tiles layers (define (codes "L") (leaf (codes "A"))) ≡ (codes "L", 16) ∷ []
another_base_layer_in_the_same_part_touches_where_segments_differ = refl

a_new_definition_touches_nothing : touched_tiles layers (define (codes "X") (leaf (codes "J"))) ≡ []
a_new_definition_touches_nothing = refl

a_drop_touches_all_tiles_of_what_is_dropped : touched_tiles layers (remove (codes "L")) ≡ in_all (codes "L")
a_drop_touches_all_tiles_of_what_is_dropped = refl

a_base_layer_is_dropped_without_tiles : touched_tiles (layers ++ base_layer (codes "D") (square 0 10 ∷ []) ∷ []) (remove (codes "D")) ≡ []
a_base_layer_is_dropped_without_tiles = refl

j_reaches_a_through_i : map (reaches_name layers (codes "J")) (codes "A" ∷ codes "I" ∷ codes "J" ∷ codes "L" ∷ []) ≡ true ∷ true ∷ true ∷ false ∷ []
j_reaches_a_through_i = refl

the_layers_over_b_come_in_order : derived_over layers (codes "B") ≡ codes "I" ∷ codes "J" ∷ codes "L" ∷ []
the_layers_over_b_come_in_order = refl
