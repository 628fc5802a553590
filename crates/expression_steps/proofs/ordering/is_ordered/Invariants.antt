use Rattle.std.proofs.Common.{◌≡◌, [], take, drop}
use Rattle.layer_expr.specs.StepList.{reached, is_ordered_after}
use Rattle.expression_steps.specs.Ordered.{names_of}
use Rattle.expression_steps.proofs.ordering.is_ordered.Given as goal

-- all are in order where those that are left may come after those so far
abbrev pub invariant-loop-at : goal.invariant-loop-at
invariant-loop-at l =
    is_ordered_after [] (reached l.layers) ≡ is_ordered_after (names_of (reached (take l.at l.layers))) (reached (drop l.at l.layers))
