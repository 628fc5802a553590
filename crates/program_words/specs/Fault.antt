-- The faults of words: their numbers and their texts.
use Rattle.std.specs.Prelude.{ℕ, List}
use Rattle.fault_texts.specs.FaultTable.{text}
use Rattle.program_words.specs.declared.fault.WordFault.{WordFault}
use Rattle.program_words.specs.declared.fault.WordFault.TheVariants.{Words, OutOfMemory}

-- the number under which a fault is printed
abbrev pub code_of : WordFault → ℕ
code_of Words = 50
code_of OutOfMemory = 40

-- the text that is printed after the number
abbrev pub text_of : WordFault → List ℕ
text_of fault = text (code_of fault)
