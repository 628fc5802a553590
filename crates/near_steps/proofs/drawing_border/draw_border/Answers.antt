use Rattle.std.proofs.Common.{◌∙◌}
use Rattle.near_steps.proofs.CoreLemmas.{coordinate_read}
use Rattle.near_steps.proofs.DrawnLemmas.{border_taken}
use Rattle.near_steps.proofs.LoopLemmas.{any_ok, border_drawn, border_is, more_through}
use Rattle.near_steps.proofs.drawing_border.draw_border.Goals as goal

pub returns-clause-border : goal.returns-clause-border
returns-clause-border c =
    border_drawn c.args.layer c.add_step-4.result c.args.marked.now.items c.add_step.new.marked.items c.add_step-2.new.marked.items c.add_step-3.new.marked.items c.add_step-4.new.marked.items
    c.point_at-low.result c.point_at-right.result c.point_at-far.result c.point_at-over.result _
    (border_is c.args.core.now c.point_at-low.result c.point_at-right.result c.point_at-far.result c.point_at-over.result _ _
    c.point_at-low.ensures c.point_at-right.ensures c.point_at-far.ensures c.point_at-over.ensures
    (coordinate_read c.size-wide.result.0 c.size-wide.ensures.in_range.0 ∙ c.size-wide.ensures.wide) (coordinate_read c.size-wide.result.1 c.size-wide.ensures.in_range.1 ∙ c.size-wide.ensures.high))
    c.in_ok-add_step.ensures.ok c.in_ok-add_step-2.ensures.ok c.in_ok-add_step-3.ensures.ok c.add_step-4.ensures.ok

pub returns-clause-kept : goal.returns-clause-kept
returns-clause-kept c =
    more_through _ _ _ (more_through _ _ _ (more_through _ _ _ c.add_step.ensures.kept c.add_step-2.ensures.kept) c.add_step-3.ensures.kept) c.add_step-4.ensures.kept

pub returns-clause-taken : goal.returns-clause-taken
returns-clause-taken c = any_ok c.add_step-4.result _ (border_taken c.args.core.now c.known.ensures)
