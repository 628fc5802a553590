use Rattle.overlay_terms.specs.Layers.{marked_segments}
use Rattle.overlay_grid.proofs.ManySegments.{rings_of, then_is}
use Rattle.overlay_grid.proofs.Pictures.{column_from}
use Rattle.overlay_grid.proofs.drawing.drawn.Goals as goal

pub returns : goal.returns
returns c =
    then_is (λ v. v.items) c.column.result _ _ c.column.ensures
    (column_from (marked_segments (rings_of c.args.bases.now)) c.args.steps.now c.rise.result c.args.grid.now c.args.i c.ny.result
    c.rise.ensures.x c.rise.ensures.y c.rise.ensures.step c.ny.ensures.value)
