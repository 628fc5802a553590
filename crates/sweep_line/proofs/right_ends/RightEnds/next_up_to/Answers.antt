use Rattle.std.proofs.Common.{sym, ◌∙◌}
use Rattle.exact_point.specs.Place.{place}
use Rattle.sweep_line.proofs.EndLemmas.{all_right}
use Rattle.sweep_line.proofs.right_ends.RightEnds.next_up_to.Goals as goal
use Rattle.arrange.proofs.FoundLemmas.{place_positive}

pub returns-then-is_left-clause-none : goal.returns-then-is_left-clause-none
returns-then-is_left-clause-none c =
    λ h. all_right (place c.args.at.now) c.args.self.now c.in_ok-end.end (place_positive c.args.at.now) c.next.ensures.ordered c.in_ok-end.ensures.some (sym c.is_left.ensures ∙ c.if-is_left.true)
