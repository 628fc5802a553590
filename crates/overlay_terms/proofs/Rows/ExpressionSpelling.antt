-- The four operations, expressions over names and over numbers, and what they are worth.
use Rattle.std.proofs.Common.{◌≡◌, ℕ, Bool, true, false, not, List, [], ◌∷◌, refl, map, codes, length}
use Rattle.overlay_terms.specs.Trees.{Operation, intersection, union, difference, sym_difference, combined, Tree, leaf, combine, truth, leaves, relabel, Source, base_bit, definition, source_value, definition_values, last_or, Steps, steps_value, mask_bits}
use Rattle.overlay_terms.specs.TreeCode.{postfix, run}
use Rattle.overlay_terms.specs.Layers.{Name, source_of}

-- for both, the left, the right, neither
abbrev table : Operation → List Bool
table o = map (λ (pair : Bool × Bool). combined o pair.0 pair.1) ((true, true) ∷ (true, false) ∷ (false, true) ∷ (false, false) ∷ [])

intersection_is_both : table intersection ≡ true ∷ false ∷ false ∷ false ∷ []
intersection_is_both = refl

union_is_one_at_least : table union ≡ true ∷ true ∷ true ∷ false ∷ []
union_is_one_at_least = refl

difference_is_the_left_without_the_right : table difference ≡ false ∷ true ∷ false ∷ false ∷ []
difference_is_the_left_without_the_right = refl

sym_difference_is_one_alone : table sym_difference ≡ false ∷ true ∷ true ∷ false ∷ []
sym_difference_is_one_alone = refl

abbrev a : Tree Name
a = leaf (codes "A")

abbrev b : Tree Name
b = leaf (codes "B")

abbrev c : Tree Name
c = leaf (codes "C")

-- A - B & C | D, and A - (B - C)
abbrev mixed : Tree Name
mixed = combine union (combine difference a (combine intersection b c)) (leaf (codes "D"))

abbrev bracketed : Tree Name
bracketed = combine difference a (combine difference b c)

leaves_stand_from_left_to_right : leaves mixed ≡ codes "A" ∷ codes "B" ∷ codes "C" ∷ codes "D" ∷ []
leaves_stand_from_left_to_right = refl

a_name_used_twice_is_two_leaves : length (leaves (combine union bracketed bracketed)) ≡ 6
a_name_used_twice_is_two_leaves = refl

-- names as the bits of a mask: A is 1, B 2, C 4, D 8
abbrev numbered : Tree Name → Tree Source
numbered t = relabel (source_of (codes "A" ∷ codes "B" ∷ codes "C" ∷ codes "D" ∷ []) []) t

names_become_numbers : numbered bracketed ≡ combine difference (leaf (base_bit 0)) (combine difference (leaf (base_bit 1)) (leaf (base_bit 2)))
names_become_numbers = refl

abbrev values : Tree Name → List ℕ → List Bool
values t masks = map (λ mask. steps_value (record { bases = 4; definitions = numbered t ∷ [] }) (mask_bits mask)) masks

the_mixed_one : values mixed (0 ∷ 1 ∷ 3 ∷ 5 ∷ 7 ∷ 8 ∷ 15 ∷ []) ≡ false ∷ true ∷ true ∷ true ∷ false ∷ true ∷ true ∷ []
the_mixed_one = refl

brackets_matter : values bracketed (1 ∷ 3 ∷ 5 ∷ 7 ∷ []) ≡ true ∷ false ∷ true ∷ true ∷ []
brackets_matter = refl

without_them_it_is_another_one : values (combine difference (combine difference a b) c) (1 ∷ 3 ∷ 5 ∷ 7 ∷ []) ≡ true ∷ false ∷ false ∷ false ∷ []
without_them_it_is_another_one = refl

-- the first definition is both bases, the second is the first or the third base
abbrev two_steps : Steps
two_steps =
    record { bases = 3; definitions = combine intersection (leaf (base_bit 0)) (leaf (base_bit 1)) ∷ combine union (leaf (definition 0)) (leaf (base_bit 2)) ∷ [] }

each_definition_in_order : map (λ mask. definition_values (mask_bits mask) two_steps.definitions) (3 ∷ 4 ∷ 1 ∷ []) ≡ (true ∷ true ∷ []) ∷ (false ∷ true ∷ []) ∷ (false ∷ false ∷ []) ∷ []
each_definition_in_order = refl

the_last_one_counts : map (λ mask. steps_value two_steps (mask_bits mask)) (3 ∷ 4 ∷ 1 ∷ 0 ∷ []) ≡ true ∷ true ∷ false ∷ false ∷ []
the_last_one_counts = refl

without_a_definition_the_base_counts : map (λ mask. steps_value (record { bases = 1; definitions = [] }) (mask_bits mask)) (0 ∷ 1 ∷ []) ≡ false ∷ true ∷ []
without_a_definition_the_base_counts = refl

a_definition_that_is_not_there_yet_is_false : map (source_value (mask_bits 1) (true ∷ [])) (base_bit 0 ∷ base_bit 1 ∷ definition 0 ∷ definition 1 ∷ []) ≡ true ∷ false ∷ true ∷ false ∷ []
a_definition_that_is_not_there_yet_is_false = refl

the_last_of_none_is_what_stands_for_it : last_or true [] ≡ true
the_last_of_none_is_what_stands_for_it = refl

leaves_may_be_true_or_false_alone : map (λ v. truth (λ (leaf_value : Bool). leaf_value) (combine union (leaf v) (leaf (not v)))) (true ∷ false ∷ []) ≡ true ∷ true ∷ []
leaves_may_be_true_or_false_alone = refl

a_tree_is_read_back_from_its_postfix_form : run (postfix mixed) [] ≡ mixed ∷ []
a_tree_is_read_back_from_its_postfix_form = refl
