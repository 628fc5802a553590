use Rattle.std.proofs.Common.{◌≡◌, false, ◌&&◌, map, nat_eq, sym, ap, ◌∙◌, eq-eqb}
use Rattle.std.specs.Cmp.Lexicographic.{pointwise}
use Rattle.std.proofs.lemmas.Bool.{eqb-true, false_from_ne_true}
use Rattle.overlay_terms.specs.SameInput.{same_definition}
use Rattle.layer_expr.specs.Steps.{step_tree}
use Rattle.layer_expr.specs.StepList.{reached, numbered_steps}
use Rattle.layer_expr.proofs.LentLayers.{length-base_names}
use Rattle.layer_expr.proofs.step_list.StepList.is_of.Goals as goal

pub returns-then-from-bases : goal.returns-then-from-bases
returns-then-from-bases c =
    let layers = c.args.layers.now in
    let steps = numbered_steps (reached layers) in
    let counted = c.base_count-bases.ensures.count ∙ length-base_names layers in
    rw (← c.self.view_is) (
    c.are_numbered.ensures
    ∙ ap (λ ds. pointwise same_definition (map step_tree ds) steps.definitions) c.deref.ensures.value
    ∙ ap (λ b. b && pointwise same_definition (map step_tree c.self.inside.definitions.items) steps.definitions)
    (sym (eq-eqb c.self.inside.bases steps.bases (sym c.from.ensures ∙ c.if-from-bases.true ∙ counted)))
    )

pub returns-else-from-bases : goal.returns-else-from-bases
returns-else-from-bases c =
    let layers = c.args.layers.now in
    let steps = numbered_steps (reached layers) in
    let counted = c.base_count-bases.ensures.count ∙ length-base_names layers in
    let other : nat_eq c.from.result c.base_count-bases.result ≡ false = false_from_ne_true _ (λ e. absurd (c.if-from-bases.false (eqb-true _ _ e))) in
    rw (← c.self.view_is) (
    other
    ∙ ap (λ b. b && pointwise same_definition (map step_tree c.self.inside.definitions.items) steps.definitions)
    (sym ((λ i. nat_eq (sym c.from.ensures i) (sym counted i)) ∙ other))
    )
