-- The layers after commands: replaced in place, taken out and closed up, added last.
use Rattle.std.proofs.Common.{◌≡◌, true, false, List, [], ◌∷◌, refl, map, codes}
use Rattle.overlay_terms.specs.Trees.{leaf, combine, intersection, difference}
use Rattle.overlay_terms.specs.Layers.{Name, Layer}
use Rattle.overlay_terms.specs.Orderly.{is_orderly_after}
use Rattle.overlay_terms.specs.Commands.{put, define, remove, applied, layers_after, AllAccepted, stands, stands_as_base, stands_as_derived}
use Rattle.overlay_terms.proofs.Rows.Shared.{square, base_layer, same_layer, made_layer}
use Rattle.overlay_terms.proofs.Rows.FirstRun.{first_run, first_commands}

abbrev names : List Layer → List Name
names layers = map (λ (layer : Layer). layer.name) layers

three_layers_in_order_of_creation : names (layers_after first_commands) ≡ codes "A" ∷ codes "B" ∷ codes "I" ∷ []
three_layers_in_order_of_creation = refl

a_base_layer_is_replaced_in_its_place : applied first_run (put (codes "A") (square 0 9 ∷ [])) ≡ base_layer (codes "A") (square 0 9 ∷ []) ∷ base_layer (codes "B") (square 5 15 ∷ []) ∷ made_layer (codes "I") intersection (codes "A") (codes "B") ∷ []
a_base_layer_is_replaced_in_its_place = refl

a_definition_is_replaced_in_its_place : applied (applied first_run (put (codes "C") [])) (define (codes "I") (combine difference (leaf (codes "A")) (leaf (codes "B")))) ≡ base_layer (codes "A") (square 0 10 ∷ []) ∷ base_layer (codes "B") (square 5 15 ∷ []) ∷ made_layer (codes "I") difference (codes "A") (codes "B") ∷ base_layer (codes "C") [] ∷ []
a_definition_is_replaced_in_its_place = refl

a_new_base_layer_stands_last : names (applied first_run (put (codes "C") [])) ≡ codes "A" ∷ codes "B" ∷ codes "I" ∷ codes "C" ∷ []
a_new_base_layer_stands_last = refl

a_new_definition_stands_last : applied first_run (define (codes "J") (leaf (codes "I"))) ≡ base_layer (codes "A") (square 0 10 ∷ []) ∷ base_layer (codes "B") (square 5 15 ∷ []) ∷ made_layer (codes "I") intersection (codes "A") (codes "B") ∷ same_layer (codes "J") (codes "I") ∷ []
a_new_definition_stands_last = refl

a_drop_closes_up : applied (base_layer (codes "A") [] ∷ base_layer (codes "B") [] ∷ base_layer (codes "C") [] ∷ []) (remove (codes "B")) ≡ base_layer (codes "A") [] ∷ base_layer (codes "C") [] ∷ []
a_drop_closes_up = refl

a_layer_put_again_after_its_drop_stands_last : names (layers_after (put (codes "A") [] ∷ put (codes "B") [] ∷ remove (codes "A") ∷ put (codes "A") [] ∷ [])) ≡ codes "B" ∷ codes "A" ∷ []
a_layer_put_again_after_its_drop_stands_last = refl

all_four_are_accepted : AllAccepted [] (put (codes "A") [] ∷ put (codes "B") [] ∷ remove (codes "A") ∷ put (codes "A") [] ∷ [])
all_four_are_accepted = (refl, (refl, (refl, (refl, tt))))

a_dropped_name_may_come_back_as_a_definition : layers_after (put (codes "A") [] ∷ put (codes "B") [] ∷ remove (codes "A") ∷ define (codes "A") (leaf (codes "B")) ∷ []) ≡ base_layer (codes "B") [] ∷ same_layer (codes "A") (codes "B") ∷ []
a_dropped_name_may_come_back_as_a_definition = refl

a_base_layer_stands_as_such : map (stands_as_base first_run) (codes "A" ∷ codes "I" ∷ codes "Z" ∷ []) ≡ true ∷ false ∷ false ∷ []
a_base_layer_stands_as_such = refl

a_derived_layer_stands_as_such : map (stands_as_derived first_run) (codes "A" ∷ codes "I" ∷ codes "Z" ∷ []) ≡ false ∷ true ∷ false ∷ []
a_derived_layer_stands_as_such = refl

both_stand : map (stands first_run) (codes "A" ∷ codes "I" ∷ codes "Z" ∷ []) ≡ true ∷ true ∷ false ∷ []
both_stand = refl

the_first_run_is_orderly : is_orderly_after [] first_run ≡ true
the_first_run_is_orderly = refl

a_name_twice_is_not : is_orderly_after [] (base_layer (codes "A") [] ∷ base_layer (codes "A") [] ∷ []) ≡ false
a_name_twice_is_not = refl

a_definition_before_what_it_names_is_not : is_orderly_after [] (same_layer (codes "I") (codes "A") ∷ base_layer (codes "A") [] ∷ []) ≡ false
a_definition_before_what_it_names_is_not = refl

a_definition_of_itself_is_not : is_orderly_after [] (same_layer (codes "I") (codes "I") ∷ []) ≡ false
a_definition_of_itself_is_not = refl
