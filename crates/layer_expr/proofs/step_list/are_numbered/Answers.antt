use Rattle.std.proofs.Common.{ap, ◌∙◌}
use Rattle.overlay_terms.specs.Trees.{relabel}
use Rattle.overlay_terms.specs.SameInput.{same_definition}
use Rattle.layer_expr.specs.Steps.{step_tree}
use Rattle.layer_expr.specs.StepList.{reached, source_among}
use Rattle.layer_expr.proofs.NumberedLemmas.{base_passed, derived_passed, other_definition, none_more, all_passed}
use Rattle.layer_expr.proofs.step_list.are_numbered.Goals as goal
use Rattle.layer_expr.proofs.step_list.are_numbered.Goals.{in-Some+else-next-definitions+else-not-is_numbered, in_default, then-next-definitions-via-then-next-definitions, then-next-definitions-via-else-next-definitions+then-not-is_numbered}

pub returns : goal.returns
returns c = all_passed (source_among (reached c.args.layers.now)) c.args.layers.now c.args.definitions.now _ c.loop-layer.layer-index c.loop-layer.next c.loop-layer.invariant c.loop-layer-test.false

pub loop-layer-preserved : goal.loop-layer-preserved
loop-layer-preserved c =
    let layers = c.args.layers.now in
    let at = source_among (reached layers) in
    elim c.match-layer.branch [
      | in-Some+else-next-definitions+else-not-is_numbered w ↦
          rw w.next-is
          (derived_passed at layers c.args.definitions.now _ c.loop-layer.layer-index c.loop-layer.next c.loop-layer.invariant c.layer-item.result w.in-Some.expr w.index-definitions-next.result w.is_numbered.result
          c.loop-layer-test.true c.layer-item.is w.in-Some.is w.if-next-definitions.false w.index-definitions-next.is
          (w.is_numbered.ensures ∙ ap (λ t. same_definition (step_tree w.index-definitions-next.result) (relabel at t)) w.root.ensures.value) w.if-not-is_numbered.false)
      | in_default w ↦
          rw w.next-is
          (base_passed at layers c.args.definitions.now _ c.loop-layer.layer-index c.loop-layer.next c.loop-layer.invariant c.layer-item.result c.loop-layer-test.true c.layer-item.is w.in_default.is)
    ]

pub returns-then-next-definitions : goal.returns-then-next-definitions
returns-then-next-definitions c =
    let layers = c.args.layers.now in
    let at = source_among (reached layers) in
    elim c.then-next-definitions.branch [
      | then-next-definitions-via-then-next-definitions w ↦
          none_more at layers c.args.definitions.now _ c.loop-layer.layer-index c.loop-layer.next c.loop-layer.invariant c.layer-item.result c.in-Some.expr c.loop-layer-test.true c.layer-item.is c.in-Some.is w.if-next-definitions.true
      | then-next-definitions-via-else-next-definitions+then-not-is_numbered w ↦
          other_definition at layers c.args.definitions.now _ c.loop-layer.layer-index c.loop-layer.next c.loop-layer.invariant c.layer-item.result c.in-Some.expr w.index-definitions-next.result w.is_numbered.result
          c.loop-layer-test.true c.layer-item.is c.in-Some.is w.if-next-definitions.false w.index-definitions-next.is
          (w.is_numbered.ensures ∙ ap (λ t. same_definition (step_tree w.index-definitions-next.result) (relabel at t)) w.root.ensures.value) w.if-not-is_numbered.true
    ]
