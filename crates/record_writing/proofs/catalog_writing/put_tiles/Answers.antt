use Rattle.std.proofs.lemmas.List.{get_or_default}
use Rattle.overlay_terms.specs.Column.{column_count}
use Rattle.store_terms.specs.Choices.{optional}
use Rattle.store_terms.specs.Catalog.{extent}
use Rattle.record_writing.proofs.PutLemmas.{put_nothing, put_more, put_all, put_repeated}
use Rattle.record_writing.proofs.catalog_writing.put_tiles.Goals as goal

pub loop-tile-init : goal.loop-tile-init
loop-tile-init c = put_nothing (optional extent) c.args.out.now.items

pub loop-tile-preserved : goal.loop-tile-preserved
loop-tile-preserved c =
    put_more (optional extent) c.args.tiles.now c.loop-tile.tile-index _ c.args.out.now.items c.loop-tile.out.items c.put_tile.new.out.items c.loop-tile-test.true
    (get_or_default c.args.tiles.now c.loop-tile.tile-index _ _ c.loop-tile-test.true) c.loop-tile.invariant c.in_ok-put_tile.ensures

pub returns : goal.returns
returns c =
    put_repeated (optional extent) column_count c.args.tiles.now c.args.out.now.items c.loop-tile.out.items c.requires
    (put_all (optional extent) c.args.tiles.now c.loop-tile.tile-index c.args.out.now.items c.loop-tile.out.items c.loop-tile-test.false c.loop-tile.invariant)
