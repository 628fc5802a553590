use Rattle.std.proofs.Common.{◌≡◌, sym, ◌∙◌}
use Rattle.exact_point.specs.PlaceOf.{place_of}
use Rattle.commit_plan.proofs.EqualityTests.{one_name, named_ends}
use Rattle.commit_plan.proofs.equality.same_piece.Goals as goal

pub returns-then-same_name-2 : goal.returns-then-same_name-2
returns-then-same_name-2 c =
    let held = c.names.ensures in
    let new = c.names-2.ensures in
    let first = one_name _ _ (sym c.same_name.ensures ∙ c.if-same_name.true) in
    let second = one_name _ _ (sym c.same_name-then-same_name.ensures ∙ c.if-same_name-2.true) in
    let from : c.args.held.now.from ≡ c.args.new.now.from = sym held.left ∙ first ∙ new.left in
    let to : c.args.held.now.to ≡ c.args.new.now.to = sym held.right ∙ second ∙ new.right in
    named_ends _ _ (λ i. (place_of (from i), place_of (to i)))
