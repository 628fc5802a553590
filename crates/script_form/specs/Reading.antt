-- The fault of a line whose name is none, and that of memory that runs out after a name. BatchLines says what a line is
-- read as.
use Rattle.std.specs.Prelude.{◌≡◌, ℕ, false, IsTrue, List}
use Rattle.layer_expr.specs.Name.{is_name}
use Rattle.layer_expr.specs.declared.fault.ExprFault.TheVariants.{BadName}
use Rattle.script_form.specs.declared.fault.CommandFault.{CommandFault}
use Rattle.script_form.specs.declared.fault.CommandFault.TheVariants.{Expression, OutOfMemory}
use Rattle.script_form.specs.Fault.{code_of}
use Rattle.script_form.specs.Replies.{error_line}

-- memory ran out after a name that is one, wherever it was asked for: that fault is reported
abbrev pub IsMemory : List ℕ → CommandFault → Type 0
IsMemory name fault = IsTrue (is_name name) × (error_line fault ≡ error_line OutOfMemory) × (code_of fault ≡ 40)

-- the bytes are no name
abbrev pub IsNoName : List ℕ → CommandFault → Type 0
IsNoName name fault = (is_name name ≡ false) × (fault ≡ Expression BadName)
