-- The faults of versions: their numbers and texts, and which fault each refusal of a command is.
use Rattle.std.specs.Prelude.{ℕ, List}
use Rattle.fault_texts.specs.FaultTable.{text}
use Rattle.overlay_terms.specs.Commands.{Refusal}
use Rattle.layer_book.specs.Fault as book
use Rattle.versions.specs.declared.fault.VersionFault.{VersionFault}
use Rattle.versions.specs.declared.fault.VersionFault.TheVariants.{Layer, Pending, Oversize}

-- the number under which a fault is printed
abbrev pub code_of : VersionFault → ℕ
code_of (Layer fault) = book.code_of fault
code_of Pending = 21
code_of Oversize = 22

-- the text that is printed after the number
abbrev pub text_of : VersionFault → List ℕ
text_of (Layer fault) = book.text_of fault
text_of fault = text (code_of fault)

-- the fault that a refusal is reported by
abbrev pub version_fault_of : Refusal → VersionFault
version_fault_of refusal = Layer (book.fault_of refusal)
