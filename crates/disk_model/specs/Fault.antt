-- The fault of a disk: its number and its text.
use Rattle.std.specs.Prelude.{ℕ, List}
use Rattle.fault_texts.specs.FaultTable.{text}
use Rattle.disk_model.specs.declared.fault.DiskFault.{DiskFault}
use Rattle.disk_model.specs.declared.fault.DiskFault.TheVariants.{Device}

-- the number under which a fault is printed
abbrev pub code_of : DiskFault → ℕ
code_of Device = 30

-- the text that is printed after the number
abbrev pub text_of : DiskFault → List ℕ
text_of fault = text (code_of fault)
