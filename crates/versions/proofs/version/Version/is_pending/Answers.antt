use Rattle.std.proofs.Common.{◌<◌, ap, sym, subst, ◌∙◌}
use Rattle.overlay_terms.specs.Column.{column_count}
use Rattle.overlay_terms.specs.Commands.{index_of}
use Rattle.layer_book.specs.Layer.{named_layer}
use Rattle.layer_tiles.specs.Table.{places_in}
use Rattle.layer_tiles.proofs.Placed.{placed_there}
use Rattle.versions.proofs.BuiltLemmas.{pending_by_row, pending_nowhere}
use Rattle.versions.proofs.version.Version.is_pending.Goals as goal

pub returns-in-Some : goal.returns-in-Some
returns-in-Some c =
    let near : c.args.column < column_count = subst (λ k. k < column_count) c.number.ensures.value c.number.ensures.small in
    pending_by_row c.args.self.now c.args.name.now c.index_of.result c.args.column (named_layer (c.in-Some.field-0-0.now, c.in-Some.layer.now)) (places_in c.in-Some.row.now) c.is_derived.result c.has.result c.layers.ensures.valid near
    (c.index_of.ensures ∙ ap (λ ls. index_of ls c.args.name.now) c.layers.ensures.value) c.in-Some.ensures.layer c.in-Some.ensures.row c.is_derived.ensures (c.has.ensures ∙ sym (placed_there c.in-Some.row.now c.args.column))

pub returns-in-None : goal.returns-in-None
returns-in-None c =
    pending_nowhere c.args.self.now c.args.name.now c.index_of.result c.args.column (c.index_of.ensures ∙ ap (λ ls. index_of ls c.args.name.now) c.layers.ensures.value) c.in-None.ensures.layer
