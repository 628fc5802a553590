use Rattle.std.proofs.Common.{map, replicate, false, Some, refl, ap, ◌∙◌}
use Rattle.overlay_terms.specs.Column.{column_count}
use Rattle.tile_build.specs.Tile.{named_pieces}
use Rattle.layer_tiles.specs.Table.{put_all, row_of, tile_in_slot}
use Rattle.layer_tiles.proofs.LateLemmas.{copied_with}
use Rattle.layer_tiles.proofs.tiles.RowParts.with_slots.Goals as goal

pub returns : goal.returns
returns c =
    ap (λ ls. put_all ls (map tile_in_slot c.in_ok-new.field-0.value.items)) c.new-2.ensures.items ∙ ap (λ v. map tile_in_slot v.items) c.in_ok-new.ensures.ok ∙ ap (map tile_in_slot) c.put.ensures
    ∙ copied_with (row_of c.args.self.now) c.in_ok-slots.slots.items (replicate column_count false) c.args.column (record { tile = Some c.args.tile }) (named_pieces c.args.tile.value) c.requires refl c.in_ok-slots.ensures refl
