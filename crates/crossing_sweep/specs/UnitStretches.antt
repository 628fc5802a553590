-- The units of an input are stretches that a sweep can run over.
use Rattle.std.specs.Prelude.{List, map}
use Rattle.arrange.specs.Units.{AreUnits}
use Rattle.arrange.specs.declared.unit.Unit.{Unit}
use Rattle.crossing_sweep.specs.StripInput.{StripInput, IsStripInput}
use Rattle.crossing_sweep.specs.Step.{AreStretches}

-- each unit is a stretch of a segment of the input between two nodes, and along each segment
-- one goes on just after any place
abbrev pub UnitsAreStretches : Type 0
UnitsAreStretches =
    (input : StripInput) (units : List Unit) → IsStripInput input → AreUnits input.marked units
    → AreStretches (map (λ m. m.segment) input.marked) (map (λ (u : Unit). u.seg) units)
