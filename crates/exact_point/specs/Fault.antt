use Rattle.std.specs.Prelude.{ℕ, List}
use Rattle.fault_texts.specs.FaultTable.{text}
use Rattle.exact_point.specs.declared.fault.PointFault.{PointFault}
use Rattle.exact_point.specs.declared.fault.PointFault.TheVariants.{PointRange}

-- the number under which a fault is printed
abbrev pub code_of : PointFault → ℕ
code_of PointRange = 20

-- the text that is printed after the number
abbrev pub text_of : PointFault → List ℕ
text_of fault = text (code_of fault)
