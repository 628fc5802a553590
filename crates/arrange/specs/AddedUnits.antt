-- Units that are added to a list.
use Rattle.std.specs.Prelude.{◌≡◌, ◌++◌, List}
use Rattle.overlay_terms.specs.Layers.{Marked}
use Rattle.arrange.specs.Units.{AreUnits}
use Rattle.arrange.specs.declared.unit.Unit.{Unit}

-- the units of some segments have been added at the end of a list
pub record HasAddedUnits (marked : List Marked) (old new : List Unit) : Type 0 where
  pub more : List Unit
  pub are : AreUnits marked more
  pub added : new ≡ old ++ more
