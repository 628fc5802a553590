use Rattle.std.proofs.Common.{◌≡◌, drop, map, false}
use Rattle.std.specs.Prelude.{is_some}
use Rattle.overlay_terms.specs.Trees.{last_or}
use Rattle.layer_expr.specs.StepList.{reached}
use Rattle.expression_steps.proofs.ordering.ends_derived.Given as goal

-- the last of all is that of those that are left, or the last so far
abbrev pub invariant-loop-layer : goal.invariant-loop-layer
invariant-loop-layer l =
    last_or false (map (λ layer. is_some layer.1) (reached l.layers))
    ≡ last_or l.last (map (λ layer. is_some layer.1) (reached (drop l.layer-index l.layers)))
