use Rattle.std.proofs.Common.{sym, ◌∙◌}
use Rattle.feature_windows.proofs.LikeLemmas.{lie_more, lie_all}
use Rattle.feature_windows.proofs.sides.all_lie.Goals as goal

pub loop-p-preserved : goal.loop-p-preserved
loop-p-preserved c =
    lie_more c.args.core.now c.args.side c.args.points.now c.loop-p.p-index c.p-item.result c.loop-p-test.true c.p-item.is (sym c.lies.ensures ∙ c.if-not-lies.false) c.loop-p.invariant

pub returns : goal.returns
returns c = λ yes. lie_all c.args.core.now c.args.side c.args.points.now c.loop-p.p-index c.loop-p-test.false c.loop-p.invariant
