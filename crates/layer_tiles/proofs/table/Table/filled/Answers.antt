use Rattle.std.proofs.Common.{◌++◌, ◌∷◌, map, sym, ap, subst, ◌∙◌}
use Rattle.std.proofs.lemmas.List.{map-append}
use Rattle.std.specs.Vec.Iter.{into_iter_items}
use Rattle.tile_build.specs.Tile.{finished_of}
use Rattle.layer_tiles.specs.Filling.{IsNextTile}
use Rattle.layer_tiles.specs.Table.{tiles_in}
use Rattle.layer_tiles.proofs.FillingLemmas.{next_stored}
use Rattle.layer_tiles.proofs.table.Table.filled.Goals as goal

pub with_stored-requires : goal.with_stored-requires
with_stored-requires c =
    let at = c.loop-tile in
    let tile = c.in-Some.tile in
    let rest = into_iter_items c.next.new.self in
    let parts = ap (λ ts. at.yielded ++ ts) (sym c.in-Some.ensures.steps.0) ∙ at.invariant.all ∙ c.into_iter-tile-iterator.ensures.into_iter_gives.0 in
    let cut = sym (ap (map finished_of) parts) ∙ map-append finished_of at.yielded (tile ∷ rest) in
    subst (λ ls. IsNextTile ls (tiles_in at.table) (finished_of tile)) (sym (at.invariant.layers ∙ c.in_ok-table.ensures.layers))
    (subst (λ ts. IsNextTile c.args.layers ts (finished_of tile)) (sym at.invariant.tiles)
    (next_stored c.args.layers (map finished_of c.args.tiles.items) (map finished_of at.yielded) (map finished_of rest) (finished_of tile) c.requires cut))
