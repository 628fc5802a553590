-- Equality of definitions and of steps as the program keeps them, with its laws.
use Rattle.std.specs.Prelude.{◌↔◌, IsTrue, ◌≡◌, Bool, refl}
use Rattle.std.proofs.Common.{sym, ap, Decides}
use Rattle.std.specs.Cmp.{IsEquivalence, IsPartialEquivalence, partial_equiv_from_equiv, both_ways, on_per}
use Rattle.overlay_terms.specs.Trees.{Steps}
use Rattle.overlay_terms.specs.SameInput.{same_definition, same_definition-Decides, same_steps, same_steps-Decides}
use Rattle.layer_expr.specs.declared.steps.StepNode.{StepNode}
use Rattle.layer_expr.specs.Steps.{step_tree}

-- the same, of definitions as the program keeps them
abbrev pub same_node : StepNode → StepNode → Bool
same_node a b = same_definition (step_tree a) (step_tree b)

equiv_from_Decides : {K : Type 0} (E : K → K → Bool) → ((x y : K) → Decides (E x y) (x ≡ y)) → IsEquivalence E
equiv_from_Decides E decides = record {
  refl = λ x. (decides x x).1 refl;
  symm = λ x y. both_ways (E x y) (E y x) (λ h. (decides y x).1 (sym ((decides x y).0 h))) (λ h. (decides x y).1 (sym ((decides y x).0 h)));
  congr = λ x y z h. ap (λ w. E w z) ((decides x y).0 h);
}

pub same_steps-equiv : IsEquivalence same_steps
same_steps-equiv = equiv_from_Decides same_steps same_steps-Decides

pub same_steps-laws : IsPartialEquivalence same_steps
same_steps-laws = partial_equiv_from_equiv same_steps-equiv

pub same_node-laws : IsPartialEquivalence same_node
same_node-laws = on_per step_tree (partial_equiv_from_equiv (equiv_from_Decides same_definition same_definition-Decides))

-- `==` of step lists holds exactly of equal values
abbrev pub SameAreEqual : Type 0
SameAreEqual = (a b : Steps) → IsTrue (same_steps a b) ↔ (a ≡ b)
