-- What a tile's building reports beside the tile: the nodes, and the pairs of neighbours that were tested.
use Rattle.std.specs.Prelude.{ℕ, ◌*◌, ◌≤◌, length, All}
use Rattle.overlay_terms.specs.Plane.{Point}
use Rattle.overlay_terms.specs.Histories.{IsTileAt}
use Rattle.overlay_terms.specs.Tiles.{Input}
use Rattle.crossing_sweep.specs.Crossed.{IsInner, IsUnitPair, IsCrossingAmong, AreCounted}
use Rattle.tile_build.specs.Tile.{tile_of}
use Rattle.tile_build.specs.declared.counted.Counted.{Counted}
use Rattle.tile_build.specs.declared.tile.Tile.{Tile}
use Rattle.tile_build.specs.declared.tile.Tile.TheVariants.{Pieces, Oversize}

-- the pieces are there
abbrev pub HasPieces : Tile → Type 0
HasPieces (Pieces list) = Unit {0}
HasPieces Oversize = ⊥

-- the tile of an input, the count of its nodes, and at most two tests a node, of pairs of units; where the pieces are
-- there, each node strictly between the borders that is no end is where a tested pair crosses
pub record IsCounted (input : Input) (cap : ℕ) (counted : Counted) : Type 0 where
  pub tile : IsTileAt cap input (tile_of counted.tile)
  pub nodes : AreCounted input (HasPieces counted.tile) counted.nodes
  pub few : length counted.tests.items ≤ 2 * counted.nodes
  pub pairs : All (IsUnitPair input.marked) counted.tests.items
  pub crossings : HasPieces counted.tile → (p : Point) → IsInner input p → IsCrossingAmong counted.tests.items p
