use Rattle.std.proofs.Common.{rules}
use Rattle.std.proofs.lemmas.Int.{to_z-of_z}
use Rattle.arrange.proofs.tile_input.touches.Goals as goal

pub returns-clause-value : goal.returns-clause-value
returns-clause-value c = search (rules, to_z-of_z, c.border.ensures.value, c.end.ensures, c.right.ensures.value, c.left.ensures.value, c.x.ensures.value, c.x-2.ensures.value)
