use Rattle.std.proofs.Common.{ap, sym, ◌∙◌}
use Rattle.overlay_terms.specs.Commands.{index_of}
use Rattle.layer_book.specs.Layer.{named_layer}
use Rattle.layer_tiles.specs.Table.{places_in}
use Rattle.layer_tiles.proofs.Placed.{full_there}
use Rattle.versions.proofs.BuiltLemmas.{built_by_row, built_nowhere}
use Rattle.versions.proofs.version.Version.is_built.Goals as goal

pub returns-in-Some : goal.returns-in-Some
returns-in-Some c =
    built_by_row c.args.self.now c.args.name.now c.index_of.result (named_layer (c.in-Some.field-0-0.now, c.in-Some.field-0-1.now)) (places_in c.in-Some.row.now) c.is_full.result
    (c.index_of.ensures ∙ ap (λ ls. index_of ls c.args.name.now) c.layers.ensures.value) c.in-Some.ensures.layer c.in-Some.ensures.row (c.is_full.ensures ∙ sym (full_there c.in-Some.row.now))

pub returns-in-None : goal.returns-in-None
returns-in-None c =
    built_nowhere c.args.self.now c.args.name.now c.index_of.result c.layers.ensures.valid (c.index_of.ensures ∙ ap (λ ls. index_of ls c.args.name.now) c.layers.ensures.value) c.in-None.ensures.layer
