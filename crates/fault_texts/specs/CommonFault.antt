-- The faults that several crates report.
use Rattle.std.specs.Prelude.{ℕ, List}
use Rattle.fault_texts.specs.FaultTable.{text}
use Rattle.fault_texts.specs.declared.common_fault.CommonFault.{CommonFault}
use Rattle.fault_texts.specs.declared.common_fault.CommonFault.TheVariants.{Device, Full, StoreFailed, SequenceLimit}
use Rattle.fault_texts.specs.declared.common_fault.CommonFault.TheVariants.{OutOfMemory, Closing, Gone, NoStore}
use Rattle.fault_texts.specs.declared.common_fault.CommonFault.TheVariants.{Read, Write, Words}

-- the number under which a fault is printed
abbrev pub code_of : CommonFault → ℕ
code_of Device = 30
code_of Full = 31
code_of StoreFailed = 35
code_of SequenceLimit = 36
code_of OutOfMemory = 40
code_of Closing = 43
code_of Gone = 44
code_of NoStore = 46
code_of Read = 48
code_of Write = 49
code_of Words = 50

-- the text that is printed after the number
abbrev pub text_of : CommonFault → List ℕ
text_of fault = text (code_of fault)
