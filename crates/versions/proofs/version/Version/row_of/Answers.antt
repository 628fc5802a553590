use Rattle.std.proofs.Common.{ap, sym, ◌∙◌}
use Rattle.std.specs.Prelude.{slice_get}
use Rattle.overlay_terms.specs.Commands.{index_of}
use Rattle.overlay_terms.specs.Histories.{tile_at}
use Rattle.layer_book.specs.Layer.{named_layer}
use Rattle.layer_tiles.specs.Table.{row_by}
use Rattle.versions.proofs.BuiltLemmas.{name_there}
use Rattle.versions.proofs.version.Version.row_of.Goals as goal

pub returns-in-Some : goal.returns-in-Some
returns-in-Some c =
    let version = c.args.self.now in
    let name = c.args.name.now in
    let index = c.index_of.ensures ∙ ap (λ ls. index_of ls name) c.layers.ensures.value in
    c.in-Some.ensures.row
    ∙ ap (λ n. row_by (tile_at version.tiles n))
    (name_there version.layers name (named_layer (c.in-Some.field-0-0.now, c.in-Some.field-0-1.now)) (ap (slice_get version.layers) (sym index) ∙ sym c.in-Some.ensures.layer))
