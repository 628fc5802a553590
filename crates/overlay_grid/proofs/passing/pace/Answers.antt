use Rattle.std.proofs.Common.{rules}
use Rattle.std.proofs.lemmas.Int.{to_z-of_z}
use Rattle.overlay_grid.proofs.passing.pace.Goals as goal

pub returns : goal.returns
returns c = search (rules, to_z-of_z, c.product.ensures, c.minus.ensures.value, c.right.ensures.value, c.left.ensures.value, c.x.ensures.value, c.x-2.ensures.value)
