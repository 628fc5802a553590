use Rattle.std.proofs.Common.{◌&&◌, map, sym, ap, ◌∙◌, eq-eqb}
use Rattle.std.specs.Cmp.Derive.Mapped.{pointwise-map}
use Rattle.std.specs.Cmp.Lexicographic.{pointwise}
use Rattle.layer_expr.specs.Steps.{step_tree}
use Rattle.overlay_terms.specs.SameInput.{same_definition}
use Rattle.layer_expr.proofs.step_list.StepListPartialEq.eq.Goals as goal

pub returns-then-self-other : goal.returns-then-self-other
returns-then-self-other c =
    let xs = c.self.inside.definitions.items in
    let ys = c.other.inside.definitions.items in
    rw (← c.self.view_is, ← c.other.view_is) (
    c.eq.ensures
    ∙ sym (pointwise-map step_tree same_definition xs ys)
    ∙ ap (λ b. b && pointwise same_definition (map step_tree xs) (map step_tree ys)) (sym (eq-eqb c.self.inside.bases c.other.inside.bases c.if-self-other.true))
    )
