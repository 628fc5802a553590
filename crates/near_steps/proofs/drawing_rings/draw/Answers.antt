use Rattle.near_steps.proofs.LoopLemmas.{one_result}
use Rattle.near_steps.proofs.drawing_rings.draw.Goals as goal

pub returns-clause-drawn : goal.returns-clause-drawn
returns-clause-drawn c =
    one_result c.args.core.now c.args.layer c.draw_line.result c.args.marked.now.items c.draw_line.new.marked.items c.args.points.now c.known.ensures c.draw_line.ensures.answer c.draw_line.ensures.drawn
