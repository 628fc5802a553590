use Rattle.std.proofs.Common.{◌∙◌, ap, map}
use Rattle.overlay_terms.specs.Layers.{marked_segments}
use Rattle.overlay_grid.specs.Column.{mark_at}
use Rattle.overlay_grid.proofs.ManySegments.{rings_of}
use Rattle.overlay_grid.specs.Grid.{grid_point}
use Rattle.overlay_grid.proofs.Pictures.{columns_long, picture_of}
use Rattle.overlay_grid.proofs.drawing.grid.Goals as goal

pub written-requires : goal.written-requires
written-requires g c =
    let size = c.args.grid.now in
    columns_long (λ v. v.items) c.deref-2.result.now (λ i j. mark_at (marked_segments (rings_of c.deref.result.now)) c.in_ok-steps.steps (grid_point size i j)) size.nx size.ny
    (ap (map (λ v. v.items)) c.deref-2.ensures.value ∙ c.in_ok-columns.ensures)

pub returns-clause-ok : goal.returns-clause-ok
returns-clause-ok g c =
    picture_of c.args.version.now.layers c.layers-layers.result.now c.args.name.now c.args.grid.now (rings_of c.deref.result.now) c.in_ok-steps.steps (map (λ v. v.items) c.deref-2.result.now) c.in_ok-written.field-0.items
    c.layers-layers.ensures.valid.book.sound.orderly c.layers-layers.ensures.value (ap rings_of c.deref.ensures.value ∙ c.in_ok-bases.ensures) c.in_ok-steps.ensures
    (ap (map (λ v. v.items)) c.deref-2.ensures.value ∙ c.in_ok-columns.ensures) c.in_ok-written.ensures
