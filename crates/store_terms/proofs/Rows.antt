-- Worked rows of the layouts.
use Rattle.std.proofs.Common.{◌≡◌, inl, inr, ℕ, ℤ, pos, true, false, List, [], ◌∷◌, length, take, replicate, Some, None, codes, refl}
use Rattle.overlay_terms.specs.Plane.{WholePoint}
use Rattle.overlay_terms.specs.Trees.{leaf, combine, intersection}
use Rattle.overlay_terms.specs.Histories.{pieces}
use Rattle.layer_expr.specs.Spelling.{expression_text}
use Rattle.exact_point.specs.declared.point_name.PointName.TheVariants.{Vertex}
use Rattle.exact_point.specs.NamedPiece.{NamedPiece}
use Rattle.store_terms.specs.BaseRecord.{rings, base_of_record}
use Rattle.store_terms.specs.DefinitionRecord.{definition_of_record}
use Rattle.store_terms.specs.TileRecord.{named_tile, tile_of_record}
use Rattle.store_terms.specs.declared.root.Root.{Root}
use Rattle.store_terms.specs.Roots.{body_text, body_in, ours}
use Rattle.store_terms.specs.Catalog.{Listed, catalog, catalog_of_record}

abbrev at : ℤ → ℤ → WholePoint
at x y = record { x = x; y = y }

abbrev square : List (List WholePoint)
square = (at (pos 0) (pos 0) ∷ at (pos 10) (pos 0) ∷ at (pos 10) (pos 10) ∷ at (pos 0) (pos 10) ∷ at (pos 0) (pos 0) ∷ []) ∷ []

abbrev square_bytes : List ℕ
square_bytes =
    0 ∷ 1 ∷ 0 ∷ 5 ∷ 0 ∷ 0 ∷ 0 ∷ 0 ∷ 0 ∷ 0 ∷ 0 ∷ 0 ∷ 0 ∷ 0 ∷ 0 ∷ 10 ∷ 0 ∷ 0 ∷ 0 ∷ 0 ∷ 0 ∷ 0 ∷ 0 ∷ 10 ∷ 0 ∷ 0 ∷ 0 ∷ 10
    ∷ 0 ∷ 0 ∷ 0 ∷ 0 ∷ 0 ∷ 0 ∷ 0 ∷ 10 ∷ 0 ∷ 0 ∷ 0 ∷ 0 ∷ 0 ∷ 0 ∷ 0 ∷ 0 ∷ []

the_square_is_44_bytes : rings.text square ≡ square_bytes
the_square_is_44_bytes = refl

and_reads_back : base_of_record square_bytes ≡ Some square
and_reads_back = refl

no_layers_are_two_bytes : (catalog 33).text [] ≡ 0 ∷ 0 ∷ []
no_layers_are_two_bytes = refl

and_are_read : catalog_of_record false (0 ∷ 0 ∷ []) ≡ Some []
and_are_read = refl

abbrev one_layer : List Listed
one_layer = record { name = codes "A"; records = inl (record { block = 3; size = 44 }) } ∷ []

a_base_layer_alone_takes_17_bytes : (catalog 33).text one_layer ≡ 0 ∷ 1 ∷ 1 ∷ 65 ∷ 0 ∷ 0 ∷ 0 ∷ 0 ∷ 0 ∷ 0 ∷ 0 ∷ 0 ∷ 3 ∷ 0 ∷ 0 ∷ 0 ∷ 44 ∷ []
a_base_layer_alone_takes_17_bytes = refl

and_is_read : catalog_of_record false (0 ∷ 1 ∷ 1 ∷ 65 ∷ 0 ∷ 0 ∷ 0 ∷ 0 ∷ 0 ∷ 0 ∷ 0 ∷ 0 ∷ 3 ∷ 0 ∷ 0 ∷ 0 ∷ 44 ∷ []) ≡ Some one_layer
and_is_read = refl

-- the catalog of an old file: a base layer A in block 3, I in block 4 and its tile of column 8 in block 2; and what it lists
abbrev old_bytes : List ℕ
old_bytes =
    0 ∷ 2 ∷ 1 ∷ 65 ∷ 0 ∷ 0 ∷ 0 ∷ 0 ∷ 0 ∷ 0 ∷ 0 ∷ 0 ∷ 3 ∷ 0 ∷ 0 ∷ 0 ∷ 44 ∷ 1 ∷ 73 ∷ 1 ∷ 0 ∷ 0 ∷ 0 ∷ 0 ∷ 0 ∷ 0 ∷ 0 ∷ 4 ∷ 0 ∷ 0 ∷ 0 ∷ 1
    ∷ 0 ∷ 0 ∷ 0 ∷ 0 ∷ 0 ∷ 0 ∷ 0 ∷ 0 ∷ 1 ∷ 0 ∷ 0 ∷ 0 ∷ 0 ∷ 0 ∷ 0 ∷ 0 ∷ 2 ∷ 0 ∷ 0 ∷ 0 ∷ 142 ∷ 0 ∷ 0 ∷ 0 ∷ 0 ∷ 0 ∷ 0 ∷ 0 ∷ 0 ∷ []

abbrev two_layers : List Listed
two_layers =
    record { name = codes "A"; records = inl (record { block = 3; size = 44 }) }
    ∷ record { name = codes "I"; records = inr (record { block = 4; size = 1 }, replicate 33 None) } ∷ []

an_old_catalog_has_61_bytes_and_lists_no_tile : (length old_bytes ≡ 61) × (catalog_of_record true old_bytes ≡ Some two_layers)
an_old_catalog_has_61_bytes_and_lists_no_tile = (refl, refl)

it_is_none_of_the_new_format : catalog_of_record false old_bytes ≡ None
it_is_none_of_the_new_format = refl

in_the_new_format_it_has_65_bytes : length ((catalog 33).text two_layers) ≡ 65
in_the_new_format_it_has_65_bytes = refl

a_definition_is_5_bytes : expression_text (combine intersection (leaf (codes "A")) (leaf (codes "B"))) ≡ 65 ∷ 32 ∷ 38 ∷ 32 ∷ 66 ∷ []
a_definition_is_5_bytes = refl

a_definition_is_its_text : definition_of_record (65 ∷ 32 ∷ 38 ∷ 32 ∷ 66 ∷ []) ≡ Some (combine intersection (leaf (codes "A")) (leaf (codes "B")))
a_definition_is_its_text = refl

without_its_spaces_it_has_not_the_form : definition_of_record (65 ∷ 38 ∷ 66 ∷ []) ≡ None
without_its_spaces_it_has_not_the_form = refl

abbrev corner_piece : NamedPiece
corner_piece = record {
  support = record { left = at (pos 1048576) (pos 1048575); right = at (pos 1048576) (pos 1048576) };
  from = Vertex (at (pos 1048576) (pos 1048575));
  to = Vertex (at (pos 1048576) (pos 1048576));
}

abbrev corner_bytes : List ℕ
corner_bytes =
    0 ∷ 32 ∷ 0 ∷ 0 ∷ 0 ∷ 1 ∷ 0 ∷ 16 ∷ 0 ∷ 0 ∷ 0 ∷ 15 ∷ 255 ∷ 255 ∷ 0 ∷ 16 ∷ 0 ∷ 0 ∷ 0 ∷ 16 ∷ 0 ∷ 0
    ∷ 0 ∷ 0 ∷ 16 ∷ 0 ∷ 0 ∷ 0 ∷ 15 ∷ 255 ∷ 255 ∷ 0 ∷ 0 ∷ 16 ∷ 0 ∷ 0 ∷ 0 ∷ 16 ∷ 0 ∷ 0 ∷ []

the_far_corner_is_40_bytes : named_tile.text (inl (32, corner_piece ∷ [])) ≡ corner_bytes
the_far_corner_is_40_bytes = refl

and_is_the_tile_of_column_32 : tile_of_record 32 corner_bytes ≡ Some (pieces ((record { x = pos 1048576; y = pos 1048575; w = pos 1 }, record { x = pos 1048576; y = pos 1048576; w = pos 1 }) ∷ []))
and_is_the_tile_of_column_32 = refl

and_of_no_other_column : tile_of_record 31 corner_bytes ≡ None
and_of_no_other_column = refl

-- slot 0 of a new store: sequence 0, version 0, a catalog of 2 bytes in block 2
abbrev first_root : Root
first_root = record { is_old = false; sequence = 0; version = 0; catalog = record { block = 2; size = 2 } }

abbrev first_bytes : List ℕ
first_bytes = 79 ∷ 86 ∷ 76 ∷ 83 ∷ 84 ∷ 79 ∷ 82 ∷ 69 ∷ 0 ∷ 0 ∷ 0 ∷ 2 ∷ 0 ∷ 0 ∷ 0 ∷ 0 ∷ 0 ∷ 0 ∷ 0 ∷ 0 ∷ 0 ∷ 0 ∷ 0 ∷ 0 ∷ 0 ∷ 0 ∷ 0 ∷ 0 ∷ 0 ∷ 0 ∷ 0 ∷ 0 ∷ 0 ∷ 0 ∷ 0 ∷ 2 ∷ 0 ∷ 0 ∷ 0 ∷ 2 ∷ 0 ∷ 0 ∷ 0 ∷ 0 ∷ 0 ∷ 0 ∷ 0 ∷ 0 ∷ []

the_first_body_is_48_bytes : body_text first_root ≡ first_bytes
the_first_body_is_48_bytes = refl

and_its_root_is_read : body_in (take 40 first_bytes) ≡ ours first_root
unfolding body_in
and_its_root_is_read = refl

-- slot 1 after the first commit: sequence 1, version 1, a catalog of 17 bytes in block 4
abbrev second_root : Root
second_root = record { is_old = false; sequence = 1; version = 1; catalog = record { block = 4; size = 17 } }

abbrev second_bytes : List ℕ
second_bytes = 79 ∷ 86 ∷ 76 ∷ 83 ∷ 84 ∷ 79 ∷ 82 ∷ 69 ∷ 0 ∷ 0 ∷ 0 ∷ 2 ∷ 0 ∷ 0 ∷ 0 ∷ 0 ∷ 0 ∷ 0 ∷ 0 ∷ 1 ∷ 0 ∷ 0 ∷ 0 ∷ 0 ∷ 0 ∷ 0 ∷ 0 ∷ 1 ∷ 0 ∷ 0 ∷ 0 ∷ 0 ∷ 0 ∷ 0 ∷ 0 ∷ 4 ∷ 0 ∷ 0 ∷ 0 ∷ 17 ∷ 0 ∷ 0 ∷ 0 ∷ 0 ∷ 0 ∷ 0 ∷ 0 ∷ 0 ∷ []

the_second_body_is_48_bytes : body_text second_root ≡ second_bytes
the_second_body_is_48_bytes = refl

and_its_root_is_read_too : body_in (take 40 second_bytes) ≡ ours second_root
unfolding body_in
and_its_root_is_read_too = refl
