use Rattle.std.proofs.Common.{◌≡◌, List, Ok, subst}
use Rattle.overlay_terms.specs.Layers.{base, Layer}
use Rattle.layer_tiles.specs.Table.{tiles_in}
use Rattle.store_terms.specs.Image.{with_layer}
use Rattle.root_reading.proofs.LayerReadingLemmas.{base_added}
use Rattle.root_reading.proofs.contents.add_base.Goals as goal

pub returns-clause-adds : goal.returns-clause-adds
returns-clause-adds g c honest rest =
    let rings = c.in_ok-rings.rings in
    let longer = c.in_ok-longer.longer in
    base_added (g.D.Disk.seen c.args.disk.now) c.args.table.now.layers c.in_ok-layers.layers longer.layers
    (tiles_in c.args.table.now) c.args.name.now c.args.extent c.in_ok-longer.ensures.layers rings (tiles_in longer)
    (c.in_ok-rings.ensures.gives honest)
    (subst (λ (ls : List Layer). with_layer ls c.args.name.now (base rings) ≡ Ok c.in_ok-layers.layers) c.layers.ensures.value
    c.in_ok-layers.ensures.reads)
    c.in_ok-longer.ensures.tiles rest
