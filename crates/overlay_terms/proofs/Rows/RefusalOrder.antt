-- Why commands are refused after the first run, and which of several reasons comes first.
use Rattle.std.proofs.Common.{◌≡◌, ℕ, ◌+◌, ◌/◌, ◌%◌, Some, None, List, [], ◌∷◌, ◌++◌, refl, map, length, codes}
use Rattle.std.specs.List.{range_with_len}
use Rattle.overlay_terms.specs.Trees.{Tree, leaf, combine, intersection, union}
use Rattle.overlay_terms.specs.Layers.{Name, Layer}
use Rattle.overlay_terms.specs.Commands.{put, define, remove, unknown_layer, not_base, not_derived, later_layer, in_use, too_many_layers, refusal_of, index_of, applied}
use Rattle.overlay_terms.proofs.Rows.Shared.{square, base_layer}
use Rattle.overlay_terms.proofs.Rows.FirstRun.{first_run}

abbrev name : Name → Tree Name
name bytes = leaf bytes

-- base layers F00, F01 and so on, without rings
abbrev fillers : ℕ → List Layer
fillers count = map (λ n. base_layer (codes "F" ++ (48 + n / 10) ∷ (48 + n % 10) ∷ []) []) (range_with_len 0 count)

abbrev crowded : List Layer
crowded = first_run ++ fillers 29

-- after the first run
an_unknown_layer_is_named : refusal_of first_run (define (codes "X") (name (codes "X"))) ≡ Some unknown_layer
an_unknown_layer_is_named = refl

a_layer_is_later_than_itself : refusal_of first_run (define (codes "I") (name (codes "I"))) ≡ Some later_layer
a_layer_is_later_than_itself = refl

the_left_name_is_asked_first : refusal_of first_run (define (codes "I") (combine intersection (name (codes "I")) (name (codes "Z")))) ≡ Some later_layer
the_left_name_is_asked_first = refl

turned_round_the_unknown_one_is : refusal_of first_run (define (codes "I") (combine intersection (name (codes "Z")) (name (codes "I")))) ≡ Some unknown_layer
turned_round_the_unknown_one_is = refl

a_base_layer_is_not_defined : refusal_of first_run (define (codes "A") (name (codes "B"))) ≡ Some not_derived
a_base_layer_is_not_defined = refl

not_even_by_an_unknown_layer : refusal_of first_run (define (codes "A") (name (codes "Z"))) ≡ Some not_derived
not_even_by_an_unknown_layer = refl

a_derived_layer_is_not_put : refusal_of first_run (put (codes "I") (square 0 10 ∷ [])) ≡ Some not_base
a_derived_layer_is_not_put = refl

a_layer_in_use_stays : refusal_of first_run (remove (codes "A")) ≡ Some in_use
a_layer_in_use_stays = refl

an_unknown_layer_is_not_dropped : refusal_of first_run (remove (codes "Z")) ≡ Some unknown_layer
an_unknown_layer_is_not_dropped = refl

a_later_layer_is_not_named : refusal_of (first_run ++ base_layer (codes "C") [] ∷ []) (define (codes "I") (combine union (name (codes "A")) (name (codes "C")))) ≡ Some later_layer
a_later_layer_is_not_named = refl

a_new_definition_may_name_all : refusal_of first_run (define (codes "X") (combine union (name (codes "I")) (name (codes "B")))) ≡ None
a_new_definition_may_name_all = refl

a_definition_may_be_replaced : refusal_of first_run (define (codes "I") (name (codes "B"))) ≡ None
a_definition_may_be_replaced = refl

a_derived_layer_that_nothing_names_may_go : refusal_of first_run (remove (codes "I")) ≡ None
a_derived_layer_that_nothing_names_may_go = refl

case_matters : refusal_of first_run (remove (codes "i")) ≡ Some unknown_layer
case_matters = refl

-- with 32 layers
thirty_two_layers_stand : length crowded ≡ 32
thirty_two_layers_stand = refl

another_base_layer_has_no_room : refusal_of crowded (put (codes "X") []) ≡ Some too_many_layers
another_base_layer_has_no_room = refl

an_unknown_name_comes_before_room : refusal_of crowded (define (codes "X") (name (codes "Z"))) ≡ Some unknown_layer
an_unknown_name_comes_before_room = refl

another_definition_has_no_room : refusal_of crowded (define (codes "X") (name (codes "A"))) ≡ Some too_many_layers
another_definition_has_no_room = refl

a_layer_that_stands_is_replaced_all_the_same : map (refusal_of crowded) (put (codes "A") [] ∷ put (codes "F28") [] ∷ define (codes "I") (name (codes "A")) ∷ []) ≡ None ∷ None ∷ None ∷ []
a_layer_that_stands_is_replaced_all_the_same = refl

not_base_comes_before_room : refusal_of crowded (put (codes "I") []) ≡ Some not_base
not_base_comes_before_room = refl

thirty_one_layers_have_room : map (refusal_of (first_run ++ fillers 28)) (put (codes "X") [] ∷ define (codes "X") (name (codes "A")) ∷ []) ≡ None ∷ None ∷ []
thirty_one_layers_have_room = refl

a_drop_makes_room : refusal_of (applied crowded (remove (codes "F07"))) (put (codes "X") []) ≡ None
a_drop_makes_room = refl

the_place_of_a_new_name_is_behind_all : map (index_of first_run) (codes "A" ∷ codes "I" ∷ codes "X" ∷ []) ≡ 0 ∷ 2 ∷ 3 ∷ []
the_place_of_a_new_name_is_behind_all = refl
