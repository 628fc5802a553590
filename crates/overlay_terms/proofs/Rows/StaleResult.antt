-- After the first run the input of a tile of I is taken, and A is put anew: the tile is pending again, and its input is another one.
use Rattle.std.proofs.Common.{◌≡◌, ℤ, pos, true, false, List, [], ◌∷◌, refl, map, codes}
use Rattle.overlay_terms.specs.Layers.{Marked}
use Rattle.overlay_terms.specs.Tiles.{Input, input_of}
use Rattle.overlay_terms.specs.Commands.{Command, put, applied}
use Rattle.overlay_terms.specs.Touched.{touched_tiles, is_touched}
use Rattle.overlay_terms.proofs.Rows.Shared.{square, place, boundary_among}
use Rattle.overlay_terms.proofs.Rows.FirstRun.{first_run}

abbrev smaller : Command
smaller = put (codes "A") (square 0 9 ∷ [])

-- the right ends of an input's segments, by x
abbrev right_ends : Input → List ℤ
right_ends input = map (λ (m : Marked). m.segment.right.x) input.marked

the_input_that_was_taken : right_ends (input_of first_run (codes "I") 16) ≡ pos 10 ∷ pos 10 ∷ pos 10 ∷ pos 0 ∷ pos 15 ∷ pos 15 ∷ pos 15 ∷ pos 5 ∷ []
the_input_that_was_taken = refl

the_present_input_is_another_one : right_ends (input_of (applied first_run smaller) (codes "I") 16) ≡ pos 9 ∷ pos 9 ∷ pos 9 ∷ pos 0 ∷ pos 15 ∷ pos 15 ∷ pos 15 ∷ pos 5 ∷ []
the_present_input_is_another_one = refl

that_tile_alone_is_touched : touched_tiles first_run smaller ≡ (codes "I", 16) ∷ []
that_tile_alone_is_touched = refl

the_base_layers_have_no_tiles : map (λ name. is_touched first_run smaller name 16) (codes "I" ∷ codes "A" ∷ codes "B" ∷ []) ≡ true ∷ false ∷ false ∷ []
the_base_layers_have_no_tiles = refl

the_new_tile_is_smaller : boundary_among (place 5 5 ∷ place 5 9 ∷ place 9 5 ∷ place 9 9 ∷ []) (applied first_run smaller) (codes "I") 16 ≡ (place 5 5, place 5 9) ∷ (place 5 5, place 9 5) ∷ (place 5 9, place 9 9) ∷ (place 9 5, place 9 9) ∷ []
the_new_tile_is_smaller = refl
