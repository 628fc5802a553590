use Rattle.tile_build.proofs.EndLemmas.{at_left, at_right}
use Rattle.tile_build.proofs.ends.is_end.Goals as goal

pub returns-then-is_one : goal.returns-then-is_one
returns-then-is_one c = λ e.
    at_left c.args.support.now c.args.vertex c.left.result c.is_one.result c.left.ensures.first c.left.ensures.value
    c.is_one.ensures c.if-is_one.true

pub returns : goal.returns
returns c = λ e.
    at_right c.args.support.now c.args.vertex c.right.result c.is_one-2.result c.left.ensures.first c.right.ensures.value
    c.is_one-2.ensures e
