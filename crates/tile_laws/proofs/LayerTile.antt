-- The tile of a layer and column is that of the layer's input there.
use Rattle.std.proofs.Common.{sym, subst}
use Rattle.overlay_terms.specs.Layers.{segments_in_reach, steps_in_reach}
use Rattle.overlay_terms.specs.Tiles.{IsTileOf, Input}
use Rattle.overlay_terms.proofs.InputLayers.{reach_is_closed}
use Rattle.overlay_terms.proofs.InputLemmas.{input_law}
use Rattle.tile_laws.specs.LayerTile.{TileOfInput, InputDecidesTile}

-- the tile of the layer's input
pub tile_of_input : TileOfInput
tile_of_input layers name k tile rings few =
    input_law (segments_in_reach layers name) (steps_in_reach layers name) k tile few (reach_is_closed layers name rings).proper

-- so the input decides it
pub input_decides_tile : InputDecidesTile
input_decides_tile layers others name other k tile rings more few same =
    let IsItsTile : Input → Type 0 = λ i. IsTileOf i.marked i.steps i.column tile in
    let one = tile_of_input layers name k tile rings few in
    let two = tile_of_input others other k tile more few in
    (λ h. two.1 (subst IsItsTile same (one.0 h)), λ h. one.1 (subst IsItsTile (sym same) (two.0 h)))
