-- The faults of the program: their numbers and their texts.
use Rattle.std.specs.Prelude.{ℕ, List}
use Rattle.fault_texts.specs.FaultTable.{text}
use Rattle.commit_plan.specs.Fault as stores
use Rattle.program_store.specs.declared.fault.ProgramFault.{ProgramFault}
use Rattle.program_store.specs.declared.fault.ProgramFault.TheVariants.{Words, Script, Store, OutOfMemory, Gone, Write}

-- the number under which a fault is printed
abbrev pub code_of : ProgramFault → ℕ
code_of Words = 50
code_of Script = 48
code_of (Store fault) = stores.code_of fault
code_of OutOfMemory = 40
code_of Gone = 44
code_of Write = 49

-- the text that is printed after the number
abbrev pub text_of : ProgramFault → List ℕ
text_of (Store fault) = stores.text_of fault
text_of fault = text (code_of fault)
