-- The tiles of a table may be stored.
use Rattle.layer_tiles.proofs.Stored.{laid_is_stored}
use Rattle.layer_tiles.specs.Table.{laid}
use Rattle.commit_plan.proofs.image.Image.of_table.Goals as goal

pub invariant_of-result-clause-stored : goal.invariant_of-result-clause-stored
invariant_of-result-clause-stored c =
    laid_is_stored (laid c.args.table.value) (rw c.deref.ensures at c.layers.ensures.valid)
