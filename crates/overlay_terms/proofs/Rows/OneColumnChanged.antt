-- M is two squares in two columns, and N the same. The left square is made a little wider: one column has another input, and one tile is touched.
use Rattle.std.proofs.Common.{◌≡◌, ℕ, ℤ, pos, List, [], ◌∷◌, ◌++◌, refl, map, codes}
use Rattle.std.specs.List.{range_with_len}
use Rattle.overlay_terms.specs.Plane.{WholePoint}
use Rattle.overlay_terms.specs.Column.{columns}
use Rattle.overlay_terms.specs.Trees.{leaf, combine, intersection, base_bit}
use Rattle.overlay_terms.specs.Layers.{Layer, Marked, steps_in_reach}
use Rattle.overlay_terms.specs.Tiles.{Input, input_of}
use Rattle.overlay_terms.specs.Commands.{put, define, applied}
use Rattle.overlay_terms.specs.Touched.{touched_tiles}
use Rattle.overlay_terms.proofs.Rows.Shared.{minus, square, rectangle, base_layer, same_layer}

abbrev squares : ℕ → List (List WholePoint)
squares width = square 0 10 ∷ rectangle (minus width) (pos 0) (minus 10) (pos 10) ∷ []

abbrev layers : List Layer
layers = base_layer (codes "M") (squares 20) ∷ same_layer (codes "N") (codes "M") ∷ []

abbrev widened : List Layer
widened = applied layers (put (codes "M") (squares 21))

abbrev inputs : List Layer → List ℕ → List Input
inputs layers columns = map (input_of layers (codes "N")) columns

abbrev other_columns : List ℕ
other_columns = range_with_len 0 15 ++ range_with_len 16 17

the_other_sixteen_inputs_are_the_same : inputs widened other_columns ≡ inputs layers other_columns
the_other_sixteen_inputs_are_the_same = refl

abbrev left_ends : Input → List ℤ
left_ends input = map (λ (m : Marked). m.segment.left.x) input.marked

one_input_had_the_left_square : left_ends (input_of layers (codes "N") 15) ≡ minus 20 ∷ minus 10 ∷ minus 20 ∷ minus 20 ∷ []
one_input_had_the_left_square = refl

it_has_the_wider_one_now : left_ends (input_of widened (codes "N") 15) ≡ minus 21 ∷ minus 10 ∷ minus 21 ∷ minus 21 ∷ []
it_has_the_wider_one_now = refl

the_same_definition_leaves_every_input : inputs (applied layers (define (codes "N") (leaf (codes "M")))) columns ≡ inputs layers columns
the_same_definition_leaves_every_input = refl

another_one_changes_the_steps_of_all : steps_in_reach (applied layers (define (codes "N") (combine intersection (leaf (codes "M")) (leaf (codes "M"))))) (codes "N") ≡ record { bases = 1; definitions = combine intersection (leaf (base_bit 0)) (leaf (base_bit 0)) ∷ [] }
another_one_changes_the_steps_of_all = refl

each_input_has_the_steps : map (λ (i : Input). i.steps) (inputs layers columns) ≡ map (λ _. record { bases = 1; definitions = leaf (base_bit 0) ∷ [] }) columns
each_input_has_the_steps = refl

the_put_touches_that_tile_alone : touched_tiles layers (put (codes "M") (squares 21)) ≡ (codes "N", 15) ∷ []
the_put_touches_that_tile_alone = refl

the_same_definition_touches_nothing : touched_tiles widened (define (codes "N") (leaf (codes "M"))) ≡ []
the_same_definition_touches_nothing = refl

the_other_one_touches_all_seventeen : touched_tiles widened (define (codes "N") (combine intersection (leaf (codes "M")) (leaf (codes "M")))) ≡ map (λ k. (codes "N", k)) columns
the_other_one_touches_all_seventeen = refl
