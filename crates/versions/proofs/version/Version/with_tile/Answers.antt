use Rattle.std.proofs.Common.{◌<◌, ap, ◌∙◌, sym, subst, arith}
use Rattle.overlay_terms.specs.Column.{column_count}
use Rattle.overlay_terms.specs.Commands.{stands_as_derived}
use Rattle.overlay_terms.specs.Histories.{is_formed}
use Rattle.overlay_terms.proofs.FormLemmas.{formed_at}
use Rattle.tile_build.specs.Tile.{tile_of}
use Rattle.layer_tiles.specs.Table.{laid, IsLaid, Tabled}
use Rattle.versions.proofs.NextVersion.{laid_is_version, laid_out, kept_follows}
use Rattle.versions.proofs.version.Version.with_tile.Goals as goal

pub with_tile-requires-clause-derived_layer : goal.with_tile-requires-clause-derived_layer
with_tile-requires-clause-derived_layer c =
    ap (λ (t : Tabled). stands_as_derived t.layers c.args.name.now) c.deref.ensures ∙ ap (λ ls. stands_as_derived ls c.args.name.now) c.in_ok-table.ensures.layers ∙ c.requires.awaited.0.0

pub with_tile-requires-clause-formed : goal.with_tile-requires-clause-formed
with_tile-requires-clause-formed c =
    ap (is_formed (tile_of c.args.tile.value)) c.column-column.ensures.value ∙ formed_at c.args.input.now (tile_of c.args.tile.value) c.requires.right

pub of-requires : goal.of-requires
of-requires c =
    laid_is_version c.number-number.result c.durable-durable.result (laid c.in_ok-next.next.value) c.number-number.ensures.small (omega (arith, c.number-number.ensures.value, c.durable-durable.ensures.reported))
    (subst (λ (t : Tabled). IsLaid (laid t)) (sym c.in_ok-next.ensures.ok) c.in_ok-made.ensures.valid)

pub returns : goal.returns
returns c =
    let known : c.args.input.now.column < column_count = subst (λ k. k < column_count) (c.number.ensures.value ∙ c.column-column.ensures.value) c.number.ensures.small in
    kept_follows c.args.self.now c.args.name.now c.args.input.now (tile_of c.args.tile.value) c.column-column.result c.number-number.result c.durable-durable.result (laid c.deref.result.now) (laid c.in_ok-made.made) (laid c.in_ok-next.next.value) c.of.result
    c.requires.awaited c.requires.right known c.number-number.ensures.value c.durable-durable.ensures.value (ap laid c.deref.ensures ∙ laid_out c.in_ok-table.table.value c.args.self.now c.in_ok-table.ensures.layers c.in_ok-table.ensures.tiles)
    c.column-column.ensures.value c.in_ok-made.ensures.layers c.in_ok-made.ensures.tiles (ap laid c.in_ok-next.ensures.ok) c.of.ensures
