use Rattle.std.proofs.Common.{arith, sym, ◌∙◌}
use Rattle.arrange.proofs.LineLemmas.{run_one, run_more, line_is, told_by_not}
use Rattle.arrange.proofs.finding_units.line_end.Goals as goal

pub loop-end-init : goal.loop-end-init
loop-end-init c = run_one c.args.lines.now c.args.start

pub loop-end-preserved : goal.loop-end-preserved
loop-end-preserved c =
    run_more c.args.lines.now c.args.start c.loop-end.end c.index-lines-start.result c.index-lines-end.result (omega arith) (omega arith) c.index-lines-start.is c.index-lines-end.is
    (line_is c.index-lines-start.result c.index-lines-end.result (told_by_not _ (sym c.ne.ensures ∙ c.if-ne.false))) c.loop-end.invariant
