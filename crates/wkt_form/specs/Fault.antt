-- The faults of texts: their numbers and texts, and those that the rings of a base layer have.
use Rattle.std.specs.Prelude.{ℕ, List, ◌++◌, codes}
use Rattle.fault_texts.specs.FaultTable.{text, filled}
use Rattle.plane_base.specs.Fault as rings
use Rattle.plane_base.specs.declared.fault.PlaneFault.{PlaneFault}
use Rattle.plane_base.specs.declared.fault.PlaneFault.TheVariants as plane
use Rattle.wkt_form.specs.declared.fault.WktFault.{WktFault}
use Rattle.wkt_form.specs.declared.fault.WktFault.TheVariants.{Syntax, NotWhole, CoordRange, RingOpen}
use Rattle.wkt_form.specs.declared.fault.WktFault.TheVariants.{RingShort, TooManySegments, OutOfMemory}

-- the number under which a fault is printed
abbrev pub code_of : WktFault → ℕ
code_of (Syntax _) = 1
code_of (NotWhole _) = 2
code_of (CoordRange _) = rings.code_of plane.CoordRange
code_of (RingOpen ring) = rings.code_of (plane.RingOpen ring)
code_of (RingShort ring) = rings.code_of (plane.RingShort ring)
code_of TooManySegments = rings.code_of plane.TooManySegments
code_of OutOfMemory = rings.code_of plane.OutOfMemory

-- the text that is printed after the number
abbrev pub text_of : WktFault → List ℕ
text_of (Syntax at) = filled at (text 1)
text_of (NotWhole at) = filled at (text 2)
text_of (CoordRange at) = filled at (text 3 ++ codes " at #")
text_of (RingOpen ring) = rings.text_of (plane.RingOpen ring)
text_of (RingShort ring) = rings.text_of (plane.RingShort ring)
text_of fault = text (code_of fault)

-- a fault of the rings as a fault of their text; rings have points in range, so that a coordinate is none of them
abbrev pub of_rings : PlaneFault → WktFault
of_rings plane.CoordRange = CoordRange 0
of_rings (plane.RingOpen ring) = RingOpen ring
of_rings (plane.RingShort ring) = RingShort ring
of_rings plane.TooManySegments = TooManySegments
of_rings plane.OutOfMemory = OutOfMemory
