-- Tiles of the code as those of the definitions, with the names of their ends.
use Rattle.std.specs.Prelude.{ℕ, List, Option, Some, None}
use Rattle.std.proofs.Common.{inl, inr}
use Rattle.exact_point.specs.NamedPiece.{NamedPiece}
use Rattle.tile_build.specs.Tile.{named_pieces}
use Rattle.tile_build.specs.declared.tile.Tile.{Tile}
use Rattle.store_terms.specs.Fields.{Field, number, both, counted}
use Rattle.store_terms.specs.Choices.{either}
use Rattle.store_terms.specs.TileRecord.{piece, NamedTile}

-- a column and the pieces of its tile, by the names of their ends; or the column of one with too many
abbrev pub named_at : ℕ → Option (List NamedPiece) → NamedTile
named_at k (Some pieces) = inl (k, pieces)
named_at k None = inr k

-- a tile and its column, by the names of its ends
abbrev pub named_by : ℕ → Tile → NamedTile
named_by k tile = named_at k (named_pieces tile)

-- a column and what may be a tile of it
abbrev pub unsieved : Field NamedTile
unsieved = either (both (number 1) (counted 4 piece)) (number 1)
