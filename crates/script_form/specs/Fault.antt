-- The faults of lines and sessions: their numbers and texts.
use Rattle.std.specs.Prelude.{ℕ, List}
use Rattle.fault_texts.specs.FaultTable.{text}
use Rattle.wkt_form.specs.Fault as wkt
use Rattle.layer_expr.specs.Fault as expr
use Rattle.exact_point.specs.Fault as point
use Rattle.versions.specs.Fault as version
use Rattle.versions.specs.declared.fault.VersionFault.TheVariants.{Layer}
use Rattle.overlay_grid.specs.Fault as pictures
use Rattle.overlay_grid.specs.declared.fault.GridFault.{GridFault}
use Rattle.overlay_grid.specs.declared.fault.GridFault.TheVariants as picture
use Rattle.script_form.specs.declared.fault.CommandFault.{CommandFault}
use Rattle.script_form.specs.declared.fault.CommandFault.TheVariants.{Wkt, Expression, Query, Version, Device, Full}
use Rattle.script_form.specs.declared.fault.CommandFault.TheVariants.{StoreFailed, SequenceLimit, OutOfMemory}
use Rattle.script_form.specs.declared.fault.CommandFault.TheVariants.{CommandSyntax, LineTooLong, Closing, Gone}
use Rattle.script_form.specs.declared.fault.CommandFault.TheVariants.{GridSize, NoStore, ReadLimit, Read, Write}

-- the number under which a fault is printed
abbrev pub code_of : CommandFault → ℕ
code_of (Wkt fault) = wkt.code_of fault
code_of (Expression fault) = expr.code_of fault
code_of (Query fault) = point.code_of fault
code_of (Version fault) = version.code_of fault
code_of Device = 30
code_of Full = 31
code_of StoreFailed = 35
code_of SequenceLimit = 36
code_of OutOfMemory = 40
code_of CommandSyntax = 41
code_of LineTooLong = 42
code_of Closing = 43
code_of Gone = 44
code_of GridSize = pictures.code_of picture.GridSize
code_of NoStore = 46
code_of ReadLimit = 47
code_of Read = 48
code_of Write = 49

-- the text that is printed after the number
abbrev pub text_of : CommandFault → List ℕ
text_of (Wkt fault) = wkt.text_of fault
text_of (Expression fault) = expr.text_of fault
text_of (Query fault) = point.text_of fault
text_of (Version fault) = version.text_of fault
text_of fault = text (code_of fault)

-- the fault of a picture, as a reply says it
abbrev pub of_grid : GridFault → CommandFault
of_grid picture.GridSize = GridSize
of_grid (picture.Layer fault) = Version (Layer fault)
of_grid (picture.Point fault) = Query fault
