use Rattle.std.proofs.Common.{rules}
use Rattle.std.proofs.lemmas.Int.{to_z-of_z}
use Rattle.strip_inputs.proofs.meeting.meets.Goals as goal

pub returns-clause-value : goal.returns-clause-value
returns-clause-value c =
    search (rules, to_z-of_z, c.first.ensures.value, c.last.ensures.value, c.border.ensures.value, c.end.ensures, c.right.ensures.value, c.left.ensures.value, c.x.ensures.value, c.x-2.ensures.value)
