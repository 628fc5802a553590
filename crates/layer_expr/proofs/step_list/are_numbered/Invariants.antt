use Rattle.std.proofs.Common.{◌≡◌, map, drop}
use Rattle.std.specs.Cmp.Lexicographic.{pointwise}
use Rattle.overlay_terms.specs.SameInput.{same_definition}
use Rattle.layer_expr.specs.Steps.{step_tree}
use Rattle.layer_expr.specs.StepList.{reached, numbered_steps, source_among}
use Rattle.layer_expr.proofs.NumberedLemmas.{relabelled}
use Rattle.layer_expr.proofs.step_list.are_numbered.Given as goal

-- what is left of both decides whether they are the same
abbrev pub invariant-loop-layer : goal.invariant-loop-layer
invariant-loop-layer l =
    pointwise same_definition (map step_tree l.definitions) (numbered_steps (reached l.layers)).definitions
    ≡ pointwise same_definition (map step_tree (drop l.next l.definitions)) (relabelled (source_among (reached l.layers)) (drop l.layer-index l.layers))
