-- Tiles of the code as tiles of the definitions, and what a tile says of a point.
use Rattle.std.specs.Prelude.{◌%◌, ◌==◌, ℕ, Bool, List, map, count_by, Option, Some, None}
use Rattle.overlay_terms.specs.Layers.{Name}
use Rattle.overlay_terms.specs.Plane.{Point}
use Rattle.overlay_terms.specs.Histories as terms
use Rattle.overlay_terms.specs.TileLaws.{is_pair_below}
use Rattle.exact_point.specs.NamedPiece.{NamedPiece, ends_of}
use Rattle.tile_build.specs.declared.tile.Tile.{Tile}
use Rattle.tile_build.specs.declared.tile.Tile.TheVariants.{Pieces, Oversize}

-- a tile by the ends of its pieces
abbrev pub tile_of : Tile → terms.Tile
tile_of (Pieces list) = terms.pieces (map ends_of list.items)
tile_of Oversize = terms.oversize

-- a tile with its name and its column as a finished tile
abbrev pub finished_of : Name × ℕ × Tile → terms.Finished
finished_of t = record { name = t.0; column = t.1; tile = tile_of t.2 }

-- the pieces of a tile with the names of their ends, where they are there
abbrev pub named_pieces : Tile → Option (List NamedPiece)
named_pieces (Pieces list) = Some list.items
named_pieces Oversize = None

-- whether an odd number of a tile's pieces is below a point, where they are there
abbrev pub answer_of : terms.Tile → Point → Option Bool
answer_of (terms.pieces ends) q = Some (count_by (is_pair_below q) ends % 2 == 1)
answer_of terms.oversize q = None
