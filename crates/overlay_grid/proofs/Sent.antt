-- What the threads that draw a picture share.
use denote.Param.Send.{IsSync, sendable}
use Rattle.std.proofs.Crossing.{crosses}
use Rattle.layer_expr.proofs.steps.StepNode.TheLaws.TheKnot.{crosses as node_crosses}
use Rattle.layer_expr.specs.contracts.step_list.StepList as steps
use Rattle.plane_base.proofs.base_layer.BaseLayer.TheSendSync as bases
use Rattle.overlay_grid.proofs.grid_spec.GridSpec.TheSendSync as grids

pub steps_sync : IsSync steps.the_row
steps_sync = search (sendable, crosses, node_crosses) depth 20

-- what crosses: references to base layers, steps and a grid
pub ruleset shared = (sendable, crosses, bases.the_sync, steps_sync, grids.the_sync)
