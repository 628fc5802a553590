-- The bytes of a layer's own record are few.
use Rattle.std.proofs.Common.{◌≡◌, ◌^◌, ◌<◌, List, ℕ, length, sym, ◌∙◌, ap, subst}
use Rattle.overlay_terms.specs.Plane.{WholePoint}
use Rattle.plane_base.specs.BaseLayer.{rings_fault}
use Rattle.layer_expr.specs.Spelling.{expression_text, IsExpression}
use Rattle.store_terms.specs.BaseRecord as bases
use Rattle.commit_plan.proofs.Imaged.{if_ok}
use Rattle.commit_plan.proofs.Short.{base_short, definition_short}
use Rattle.commit_plan.proofs.record_places.own_bytes.Goals as goal
use Rattle.std.proofs.Common.{None}

pub returns-in-Base-clause-short : goal.returns-in-Base-clause-short
returns-in-Base-clause-short c =
    let rings = c.in-Base.rings.value in
    let good = subst (λ (r : List (List WholePoint)). rings_fault r ≡ None)
    (c.rings.ensures.value ∙ c.deref.ensures) c.rings.ensures.valid in
    if_ok c.write_base.result (λ v. v.items ≡ bases.rings.text c.deref-in-Base.result.now) (λ v. length v.items < 2 ^ 32)
    (λ v is. subst (λ (l : List ℕ). length l < 2 ^ 32) (sym (is ∙ ap bases.rings.text c.deref-in-Base.ensures))
    (base_short rings good)) c.write_base.ensures.spelled

pub returns-in-Derived-clause-short : goal.returns-in-Derived-clause-short
returns-in-Derived-clause-short c =
    let expression = c.in-Derived.expression.value in
    let valid = subst IsExpression c.deref-in-Derived.ensures c.root.ensures.valid in
    if_ok c.write_definition.result (λ v. v.items ≡ expression_text c.deref-in-Derived-2.result.now)
    (λ v. length v.items < 2 ^ 32)
    (λ v is. subst (λ (l : List ℕ). length l < 2 ^ 32) (sym (is ∙ ap expression_text c.deref-in-Derived-2.ensures))
    (definition_short expression valid)) c.write_definition.ensures.spelled
