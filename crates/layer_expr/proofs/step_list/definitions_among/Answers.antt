use Rattle.std.proofs.Common.{◌++◌, ◌∷◌, [], map, take, sym, ap, ◌∙◌}
use Rattle.std.proofs.lemmas.List.{map-append}
use Rattle.overlay_terms.specs.Trees.{relabel}
use Rattle.layer_expr.specs.Steps.{step_tree}
use Rattle.layer_expr.specs.StepList.{reached, definitions_of, source_among}
use Rattle.layer_expr.proofs.LentLayers.{definitions_of-base, definitions_of-derived}
use Rattle.layer_expr.proofs.step_list.definitions_among.Goals as goal
use Rattle.layer_expr.proofs.step_list.definitions_among.Goals.{in-Some+in_ok-numbered+in_ok-push, in_default}

pub loop-layer-preserved : goal.loop-layer-preserved
loop-layer-preserved c =
    let layers = c.args.layers.now in
    let at = source_among (reached layers) in
    elim c.match-layer.branch [
      | in-Some+in_ok-numbered+in_ok-push w ↦
          ap (λ v. map step_tree v.items) w.definitions-is
          ∙ ap (map step_tree) w.in_ok-push.ensures.items
          ∙ map-append step_tree c.loop-layer.definitions.items (w.in_ok-numbered.field-0 ∷ [])
          ∙ ap (λ ts. ts ++ step_tree w.in_ok-numbered.field-0 ∷ []) c.loop-layer.invariant
          ∙ ap (λ t. map (λ d. relabel at d.1) (definitions_of (reached (take c.loop-layer.layer-index layers))) ++ t ∷ []) (w.in_ok-numbered.ensures ∙ ap (relabel at) w.root.ensures.value)
          ∙ sym (definitions_of-derived at layers c.loop-layer.layer-index c.layer-item.result w.in-Some.expr c.loop-layer-test.true c.layer-item.is w.in-Some.is)
      | in_default w ↦
          ap (λ v. map step_tree v.items) w.definitions-is
          ∙ c.loop-layer.invariant
          ∙ sym (definitions_of-base at layers c.loop-layer.layer-index c.layer-item.result c.loop-layer-test.true c.layer-item.is w.in_default.is)
    ]
