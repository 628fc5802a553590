use Rattle.std.specs.Prelude.{ℕ, List}
use Rattle.fault_texts.specs.FaultTable.{text, filled}
use Rattle.plane_base.specs.declared.fault.PlaneFault.{PlaneFault}
use Rattle.plane_base.specs.declared.fault.PlaneFault.TheVariants.{CoordRange, RingOpen, RingShort}
use Rattle.plane_base.specs.declared.fault.PlaneFault.TheVariants.{TooManySegments, OutOfMemory}

-- the number under which a fault is printed
abbrev pub code_of : PlaneFault → ℕ
code_of CoordRange = 3
code_of (RingOpen _) = 4
code_of (RingShort _) = 5
code_of TooManySegments = 6
code_of OutOfMemory = 40

-- the text that is printed after the number
abbrev pub text_of : PlaneFault → List ℕ
text_of (RingOpen ring) = filled ring (text 4)
text_of (RingShort ring) = filled ring (text 5)
text_of fault = text (code_of fault)
