-- The faults of extents: their numbers and texts.
use Rattle.std.specs.Prelude.{ℕ, List}
use Rattle.fault_texts.specs.FaultTable.{text, filled}
use Rattle.extent_map.specs.declared.fault.ExtentFault.{ExtentFault}
use Rattle.extent_map.specs.declared.fault.ExtentFault.TheVariants.{Full, Overlap, OutOfMemory}

-- the number under which a fault is printed
abbrev pub code_of : ExtentFault → ℕ
code_of Full = 31
code_of Overlap = 33
code_of OutOfMemory = 40

-- the text that is printed after the number; two extents with a block in common are damage 9
abbrev pub text_of : ExtentFault → List ℕ
text_of Overlap = filled 9 (text 33)
text_of fault = text (code_of fault)
