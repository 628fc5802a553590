use Rattle.std.proofs.Common.{◌≡◌, drop}
use Rattle.overlay_terms.specs.Orderly.{is_among}
use Rattle.layer_expr.specs.StepList.{reached}
use Rattle.expression_steps.specs.Ordered.{names_of}
use Rattle.expression_steps.proofs.ordering.is_named.Given as goal

-- the name is among all where it is among those that are left
abbrev pub invariant-loop-layer : goal.invariant-loop-layer
invariant-loop-layer l =
    is_among (names_of (reached l.layers)) l.name ≡ is_among (names_of (reached (drop l.layer-index l.layers))) l.name
