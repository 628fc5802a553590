-- The faults of names and expressions: their numbers and texts.
use Rattle.std.specs.Prelude.{ℕ, List}
use Rattle.fault_texts.specs.FaultTable.{text, filled}
use Rattle.layer_expr.specs.declared.fault.ExprFault.{ExprFault}
use Rattle.layer_expr.specs.declared.fault.ExprFault.TheVariants.{ExprSyntax, ExprTooLong, BadName, OutOfMemory}

-- the number under which a fault is printed
abbrev pub code_of : ExprFault → ℕ
code_of (ExprSyntax _) = 7
code_of ExprTooLong = 8
code_of BadName = 9
code_of OutOfMemory = 40

-- the text that is printed after the number
abbrev pub text_of : ExprFault → List ℕ
text_of (ExprSyntax at) = filled at (text 7)
text_of fault = text (code_of fault)
