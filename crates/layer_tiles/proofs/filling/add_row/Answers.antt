use Rattle.std.proofs.Common.{map, arith}
use Rattle.std.specs.Option.{option_map}
use Rattle.std.proofs.lemmas.List.{length-map}
use Rattle.tile_build.specs.Tile.{finished_of}
use Rattle.layer_tiles.specs.Table.{places_in}
use Rattle.layer_tiles.specs.TileCode.{by_places}
use Rattle.layer_tiles.proofs.FillingLemmas.{column_more}
use Rattle.layer_tiles.proofs.filling.add_row.Goals as goal

pub loop-number-preserved : goal.loop-number-preserved
loop-number-preserved c =
    let row = c.args.row.now in
    column_more c.args.name.now (map finished_of c.args.list.now.items) (map finished_of c.loop-number.list.items) (map finished_of c.add_tile.new.list.items) (places_in row) c.loop-number.number
    (omega (arith, length-map row (option_map by_places), c.requires, c.loop-number-test.true)) c.loop-number.invariant c.in_ok-add_tile.ensures
