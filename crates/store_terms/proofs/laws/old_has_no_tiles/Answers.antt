use Rattle.store_terms.proofs.OldHeld.{old_has_no_tiles}
use Rattle.store_terms.proofs.laws.old_has_no_tiles.Goals as goal

pub returns : goal.returns
returns c = old_has_no_tiles
