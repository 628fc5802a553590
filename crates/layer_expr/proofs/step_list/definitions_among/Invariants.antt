use Rattle.std.proofs.Common.{◌≡◌, map, take}
use Rattle.overlay_terms.specs.Trees.{relabel}
use Rattle.layer_expr.specs.Steps.{step_tree}
use Rattle.layer_expr.specs.StepList.{reached, definitions_of, source_among}
use Rattle.layer_expr.proofs.step_list.definitions_among.Given as goal

-- the definitions so far
abbrev pub invariant-loop-layer : goal.invariant-loop-layer
invariant-loop-layer l =
    map step_tree l.definitions.items ≡ map (λ d. relabel (source_among (reached l.layers)) d.1) (definitions_of (reached (take l.layer-index l.layers)))
