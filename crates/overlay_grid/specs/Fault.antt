-- The faults of pictures: their numbers and texts.
use Rattle.std.specs.Prelude.{ℕ, List}
use Rattle.fault_texts.specs.FaultTable.{text}
use Rattle.exact_point.specs.Fault as point
use Rattle.layer_book.specs.Fault as book
use Rattle.overlay_grid.specs.declared.fault.GridFault.{GridFault}
use Rattle.overlay_grid.specs.declared.fault.GridFault.TheVariants.{GridSize, Layer, Point}

-- the number under which a fault is printed
abbrev pub code_of : GridFault → ℕ
code_of GridSize = 45
code_of (Layer fault) = book.code_of fault
code_of (Point fault) = point.code_of fault

-- the text that is printed after the number
abbrev pub text_of : GridFault → List ℕ
text_of (Layer fault) = book.text_of fault
text_of (Point fault) = point.text_of fault
text_of fault = text (code_of fault)
