use Rattle.std.proofs.Common.{Option, None, get_or, ap, sym, ◌∙◌}
use Rattle.std.specs.Option.{option_map}
use Rattle.layer_tiles.specs.TileCode.{by_places, Named}
use Rattle.overlay_terms.specs.Commands.{index_of}
use Rattle.layer_tiles.specs.Table.{laid, places_in}
use Rattle.layer_tiles.proofs.LookLemmas.{in_row, in_no_row}
use Rattle.layer_tiles.proofs.Placed.{placed_once, places_at}
use Rattle.layer_tiles.proofs.table.Table.tile.Goals as goal

pub returns-in-Some : goal.returns-in-Some
returns-in-Some c =
    let row = c.in-Some.row.now in
    placed_once (λ b. b.now.value) c.tile_at.result ∙ ap (λ (o : Option Named). option_map by_places o) (c.tile_at.ensures ∙ ap (λ j. get_or row j None) c.from.ensures) ∙ sym (places_at row c.args.column)
    ∙ in_row (laid c.args.self.now) c.layers.ensures.valid c.args.name.now c.index_of-place.result (places_in row) c.args.column (c.index_of-place.ensures ∙ ap (λ ls. index_of ls c.args.name.now) c.layers.ensures.value) c.in-Some.ensures.places

pub returns-in-None : goal.returns-in-None
returns-in-None c =
    in_no_row (laid c.args.self.now) c.layers.ensures.valid c.args.name.now c.index_of-place.result c.args.column (c.index_of-place.ensures ∙ ap (λ ls. index_of ls c.args.name.now) c.layers.ensures.value) c.in-None.ensures.places
