use Rattle.std.proofs.Common.{ap}
use Rattle.tile_build.specs.Tile.{tile_of}
use Rattle.layer_tiles.specs.Filling.{finished_as}
use Rattle.layer_tiles.specs.Table.{tiles_in}
use Rattle.layer_tiles.proofs.FillingLemmas.{next_ok}
use Rattle.layer_tiles.proofs.table.Table.with_next.Goals as goal

pub returns-clause-tiles : goal.returns-clause-tiles
returns-clause-tiles c =
    let table = c.args.self.now in
    next_ok c.with_tile.result table.layers (tiles_in table) (finished_as c.args.name.now c.args.column (tile_of c.args.tile)) (tile_of c.in_ok-tile.tile.value) (ap (λ t. tile_of t) c.in_ok-tile.ensures.ok)
    c.layers.ensures.valid.ordered c.requires.behind c.with_tile.ensures.layers c.with_tile.ensures.tiles c.with_tile.ensures.valid
