-- The faults of records: their numbers and texts.
use Rattle.std.specs.Prelude.{ℕ, List, Option, Some, None}
use Rattle.fault_texts.specs.FaultTable.{text, filled}
use Rattle.store_terms.specs.Damage as damages
use Rattle.record_reading.specs.declared.fault.RecordFault.{RecordFault}
use Rattle.record_reading.specs.declared.fault.RecordFault.TheVariants.{Damaged, OutOfMemory}

-- the number of a damage with this code, or of none: no store at all
abbrev pub code_of_damage : Option ℕ → ℕ
code_of_damage None = 32
code_of_damage (Some code) = 33

-- the number under which a fault is printed
abbrev pub code_of : RecordFault → ℕ
code_of (Damaged damage) = code_of_damage (damages.code_of damage)
code_of OutOfMemory = 40

abbrev pub text_of_damage : Option ℕ → List ℕ
text_of_damage None = text 32
text_of_damage (Some code) = filled code (text 33)

-- the text that is printed after the number
abbrev pub text_of : RecordFault → List ℕ
text_of (Damaged damage) = text_of_damage (damages.code_of damage)
text_of fault = text (code_of fault)
