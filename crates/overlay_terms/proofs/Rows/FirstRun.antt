-- The first run: two squares A and B, and I, what they share.
use Rattle.std.proofs.Common.{◌≡◌, true, false, List, [], ◌∷◌, refl, map, length, codes}
use Rattle.overlay_terms.specs.Plane.{segments_of, ring_step_count}
use Rattle.overlay_terms.specs.Trees.{leaf, combine, intersection, base_bit, mask_bits, steps_value}
use Rattle.overlay_terms.specs.Layers.{Layer, value_of, answer_at, inside, outside, edge, steps_in_reach}
use Rattle.overlay_terms.specs.Commands.{Command, put, define, AllAccepted, layers_after}
use Rattle.overlay_terms.specs.Touched.{touched_tiles}
use Rattle.overlay_terms.proofs.Rows.Shared.{part, place, square, base_layer, made_layer}

abbrev pub first_run : List Layer
first_run =
    base_layer (codes "A") (square 0 10 ∷ []) ∷ base_layer (codes "B") (square 5 15 ∷ []) ∷ made_layer (codes "I") intersection (codes "A") (codes "B") ∷ []

abbrev pub first_commands : List Command
first_commands =
    put (codes "A") (square 0 10 ∷ []) ∷ put (codes "B") (square 5 15 ∷ []) ∷ define (codes "I") (combine intersection (leaf (codes "A")) (leaf (codes "B"))) ∷ []

each_command_is_accepted : AllAccepted [] first_commands
each_command_is_accepted = (refl, (refl, (refl, tt)))

the_commands_leave_three_layers : layers_after first_commands ≡ first_run
the_commands_leave_three_layers = refl

the_definition_touches_no_tile_that_was_there : touched_tiles (base_layer (codes "A") (square 0 10 ∷ []) ∷ base_layer (codes "B") (square 5 15 ∷ []) ∷ []) (define (codes "I") (combine intersection (leaf (codes "A")) (leaf (codes "B")))) ≡ []
the_definition_touches_no_tile_that_was_there = refl

a_square_has_four_segments : length (segments_of (square 0 10 ∷ [])) ≡ 4
a_square_has_four_segments = refl

a_square_has_four_steps : ring_step_count (square 0 10 ∷ []) ≡ 4
a_square_has_four_steps = refl

two_two_is_in_a : answer_at first_run (codes "A") (place 2 2) ≡ inside
two_two_is_in_a = refl

ten_two_is_an_edge_of_a : answer_at first_run (codes "A") (place 10 2) ≡ edge
ten_two_is_an_edge_of_a = refl

seven_seven_is_in_both : answer_at first_run (codes "I") (place 7 7) ≡ inside
seven_seven_is_in_both = refl

two_two_is_in_one_alone : answer_at first_run (codes "I") (place 2 2) ≡ outside
two_two_is_in_one_alone = refl

the_value_is_that_of_both : map (value_of first_run (codes "I")) (place 7 7 ∷ place 2 2 ∷ []) ≡ true ∷ false ∷ []
the_value_is_that_of_both = refl

an_edge_of_a_is_an_edge_of_i : answer_at first_run (codes "I") (place 10 2) ≡ edge
an_edge_of_a_is_an_edge_of_i = refl

fourteen_halves_are_in_both : answer_at first_run (codes "I") (part 14 14 2) ≡ inside
fourteen_halves_are_in_both = refl

i_is_one_definition_over_two_bases : steps_in_reach first_run (codes "I") ≡ record { bases = 2; definitions = combine intersection (leaf (base_bit 0)) (leaf (base_bit 1)) ∷ [] }
i_is_one_definition_over_two_bases = refl

a_is_itself_alone : steps_in_reach first_run (codes "A") ≡ record { bases = 1; definitions = [] }
a_is_itself_alone = refl

only_both_bits_make_i : map (λ mask. steps_value (steps_in_reach first_run (codes "I")) (mask_bits mask)) (0 ∷ 1 ∷ 2 ∷ 3 ∷ []) ≡ false ∷ false ∷ false ∷ true ∷ []
only_both_bits_make_i = refl
