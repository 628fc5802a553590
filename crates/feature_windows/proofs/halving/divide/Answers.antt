use Rattle.std.proofs.Common.{refl, ap, ◌∙◌, [], ◌∷◌, ◌++◌}
use Rattle.feature_windows.specs.Windows.{in_halves}
use Rattle.feature_windows.proofs.halving.divide.Goals as goal

pub returns : goal.returns
returns c =
    let halves = rw c.in-Some.is at c.in_ok-first.ensures in
    in_halves c.in-Some.first c.in-Some.second halves refl (c.in_ok-push-4.ensures.items ∙ ap (λ ws. ws ++ c.in-Some.first ∷ []) c.in_ok-push-3.ensures.items)
