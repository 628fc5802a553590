use Rattle.std.proofs.Common.{◌≡◌, map, take}
use Rattle.layer_expr.specs.Steps.{step_tree}
use Rattle.layer_expr.proofs.step_list.StepList.try_copy.Given as goal

-- what is copied so far
abbrev pub invariant-loop-node : goal.invariant-loop-node
invariant-loop-node l = map step_tree l.definitions.items ≡ map step_tree (take l.node-index l.node-items)
