use Rattle.std.proofs.Common.{map, ap}
use Rattle.arrange.specs.Marked.{marked_of}
use Rattle.arrange.proofs.BaseLemmas.{few_layers}
use Rattle.arrange.proofs.tile_input.TileInput.marked.Goals as goal

pub returns-clause-few : goal.returns-clause-few
returns-clause-few c = few_layers _ c.deref.result.now c.self.invariant.0 (ap (map marked_of) c.deref.ensures.value)
