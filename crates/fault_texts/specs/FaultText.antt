-- The texts of faults, as the code has them.
use Rattle.std.specs.Prelude.{ℕ, ◌≤◌, List, ◌++◌, length, codes, decimal}
use Rattle.fault_texts.specs.declared.fault_text.FaultText.{FaultText}
use Rattle.fault_texts.specs.declared.fault_text.FaultText.TheVariants.{Plain, At, Ring}

-- the bytes of a fault's text
abbrev pub shown : FaultText → List ℕ
shown (Plain text) = text.now
shown (At text number) = text.now ++ decimal number
shown (Ring number text) = codes "ring " ++ (decimal number ++ text.now)

-- what is written round a number is short
abbrev pub IsBrief : FaultText → Type 0
IsBrief (Plain text) = length text.now ≤ 32
IsBrief (At text number) = length text.now ≤ 32
IsBrief (Ring number text) = length text.now ≤ 32
