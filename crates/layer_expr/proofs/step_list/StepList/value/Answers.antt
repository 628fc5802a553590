use Rattle.std.proofs.Common.{◌≡◌, ◌∙◌, rules, subst}
use Rattle.overlay_terms.specs.Trees.{steps_value, mask_bits}
use Rattle.layer_expr.specs.StepList.{IsStepList}
use Rattle.layer_expr.proofs.NothingAtZero.{steps_value-zero}
use Rattle.layer_expr.proofs.MaskedSteps.{steps_value-known}
use Rattle.layer_expr.proofs.step_list.StepList.value.Goals as goal

pub returns-clause-known : goal.returns-clause-known
returns-clause-known c =
    let value : c.last_value.result ≡ steps_value c.args.self.now (mask_bits c.args.mask) = search rules in
    λ bits same. value ∙ steps_value-known c.args.self.now (mask_bits c.args.mask) bits (subst IsStepList c.self.view_is c.self.invariant) same

pub returns-clause-nothing : goal.returns-clause-nothing
returns-clause-nothing c =
    let value : c.last_value.result ≡ steps_value c.args.self.now (mask_bits c.args.mask) = search rules in
    λ none. value ∙ steps_value-zero c.args.self.now c.args.mask none
