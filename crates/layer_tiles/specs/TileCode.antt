-- Finished tiles as data that a model's value may hold.
use Rattle.std.specs.Prelude.{ℕ, List, Option, Some, None, map, refl}
use Rattle.std.specs.Coded.{Coded, code_by, coded_list, coded_option, coded×, coded_ℕ}
use Rattle.overlay_terms.specs.Layers.{Name}
use Rattle.overlay_terms.specs.InputCode.{tile_code}
use Rattle.overlay_terms.specs.Histories.{Tile, pieces, oversize, Finished}
use Rattle.exact_point.specs.NamedPiece.{NamedPiece, ends_of}
use Rattle.exact_point.specs.NameCode.{piece_code}

abbrev pub finished_code : Coded Finished
finished_code =
    code_by (Name × (ℕ × Tile)) (coded× (coded_list coded_ℕ) (coded× coded_ℕ tile_code)) (λ f. (f.name, (f.column, f.tile))) (λ t. record { name = t.0; column = t.1.0; tile = t.1.1 }) (λ _. refl)

-- a tile by the names of its pieces' ends; or nothing, where its pieces are too many
abbrev pub Named : Type 0
Named = Option (List NamedPiece)

abbrev pub named_code : Coded Named
named_code = coded_option (coded_list piece_code)

-- the tile by the places of the ends
abbrev pub by_places : Named → Tile
by_places (Some list) = pieces (map ends_of list)
by_places None = oversize
