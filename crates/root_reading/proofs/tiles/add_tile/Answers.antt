use Rattle.tile_build.specs.Tile.{tile_of}
use Rattle.std.proofs.Common.{◌≡◌, ℕ, ◌++◌, ◌∷◌, [], subst}
use Rattle.layer_tiles.specs.Filling.{finished_as}
use Rattle.layer_tiles.specs.Table.{tiles_in}
use Rattle.root_reading.proofs.StoredLemmas.{next_tile}
use Rattle.root_reading.proofs.tiles.add_tile.Goals as goal

pub returns-clause-next : goal.returns-clause-next
returns-clause-next g c =
    let tile = tile_of c.in_ok-column.tile in
    let longer = c.in_ok-longer.longer in
    next_tile c.args.table.now longer c.args.name.now c.args.column tile c.in_ok-longer.ensures.layers
    (subst (λ (k : ℕ). tiles_in longer ≡ tiles_in c.args.table.now ++ finished_as c.args.name.now k tile ∷ [])
    c.in_ok-column.ensures.column c.in_ok-longer.ensures.tiles) c.requires.next
