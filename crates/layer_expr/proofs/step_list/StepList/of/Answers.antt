use Rattle.std.proofs.Common.{ap, sym, subst, ◌∙◌, map}
use Rattle.overlay_terms.specs.Trees.{steps_value}
use Rattle.layer_expr.specs.Steps.{step_tree}
use Rattle.layer_expr.specs.StepList.{reached, IsStepList}
use Rattle.layer_expr.proofs.LentLayers.{numbered_steps-parts, is_step_list}
use Rattle.layer_expr.proofs.StepEvaluation.{steps_value-numbered}
use Rattle.layer_expr.proofs.step_list.StepList.of.Goals as goal

pub invariant_of-result : goal.invariant_of-result
invariant_of-result c =
    let layers = c.args.layers.now in
    let steps = numbered_steps-parts layers c.base_count-bases.result (map step_tree c.in_ok-definitions.definitions.items) c.base_count-bases.ensures.count c.in_ok-definitions.ensures in
    subst IsStepList (sym steps) (is_step_list layers c.requires.few c.requires.ordered)

pub returns : goal.returns
returns c =
    let layers = c.args.layers.now in
    let steps = numbered_steps-parts layers c.base_count-bases.result (map step_tree c.in_ok-definitions.definitions.items) c.base_count-bases.ensures.count c.in_ok-definitions.ensures in
    record {
      steps = steps;
      value = λ bits. ap (λ s. steps_value s bits) steps ∙ steps_value-numbered (reached layers) bits c.requires.ordered c.requires.reaches;
    }
