use Rattle.std.proofs.Common.{◌∙◌}
use Rattle.point_looks.specs.Spot.{point_of}
use Rattle.point_looks.proofs.BlockLemmas.{same_inside, same_edge}
use Rattle.point_looks.proofs.blocks.look_at_blocks.Goals as goal

pub returns-clause-inside : goal.returns-clause-inside
returns-clause-inside c =
    let p = point_of c.args.spot.now in
    c.look.ensures.inside ∙ same_inside p c.args.blocks.now c.ordered.result.1.now c.ordered.ensures.same

pub returns-clause-edge : goal.returns-clause-edge
returns-clause-edge c =
    let p = point_of c.args.spot.now in
    c.look.ensures.edge ∙ same_edge p c.args.blocks.now c.ordered.result.1.now c.ordered.ensures.same
