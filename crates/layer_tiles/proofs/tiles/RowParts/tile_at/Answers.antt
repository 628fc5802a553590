use Rattle.std.proofs.Common.{get_or, map, None, ap, sym, ◌∙◌}
use Rattle.layer_tiles.specs.Table.{put_all, tile_in_slot}
use Rattle.layer_tiles.proofs.LateLemmas.{length_put}
use Rattle.layer_tiles.proofs.tiles.RowParts.tile_at.Goals as goal

pub returns-in-Some : goal.returns-in-Some
returns-in-Some c =
    let parts = c.args.self.now in
    let base = map tile_in_slot parts.slots.value.items in
    sym (c.in-Some.ensures.some base (sym (length_put parts.late.items base) ∙ c.requires)) ∙ ap (λ ls. get_or (put_all ls base) c.args.number None) c.deref.ensures.value
