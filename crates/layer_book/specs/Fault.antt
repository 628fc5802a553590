-- The faults of the layers: their numbers and texts, and which fault each refusal of a command is.
use Rattle.std.specs.Prelude.{◌≡◌, ◌⊎◌, ℕ, List, Option, Some, None}
use Rattle.fault_texts.specs.FaultTable.{text}
use Rattle.overlay_terms.specs.Commands.{Refusal, unknown_layer, not_base, not_derived}
use Rattle.overlay_terms.specs.Commands.{later_layer, in_use, too_many_layers, version_limit}
use Rattle.layer_book.specs.declared.fault.LayerFault.{LayerFault}
use Rattle.layer_book.specs.declared.fault.LayerFault.TheVariants.{UnknownLayer, NotBase, NotDerived, LaterLayer}
use Rattle.layer_book.specs.declared.fault.LayerFault.TheVariants.{InUse, TooManyLayers, VersionLimit, BatchSize}
use Rattle.layer_book.specs.declared.fault.LayerFault.TheVariants.{BadColumn, OutOfMemory}

-- the number under which a fault is printed
abbrev pub code_of : LayerFault → ℕ
code_of UnknownLayer = 10
code_of NotBase = 11
code_of NotDerived = 12
code_of LaterLayer = 13
code_of InUse = 14
code_of TooManyLayers = 15
code_of VersionLimit = 16
code_of BatchSize = 17
code_of BadColumn = 23
code_of OutOfMemory = 40

-- the text that is printed after the number
abbrev pub text_of : LayerFault → List ℕ
text_of fault = text (code_of fault)

-- the fault that a refusal is reported by
abbrev pub fault_of : Refusal → LayerFault
fault_of unknown_layer = UnknownLayer
fault_of not_base = NotBase
fault_of not_derived = NotDerived
fault_of later_layer = LaterLayer
fault_of in_use = InUse
fault_of too_many_layers = TooManyLayers
fault_of version_limit = VersionLimit

-- a call is refused by a fault: by the first reason that applies; where none applies, by `memory`
abbrev pub RefusedBy : {F : Type 0} → F → Option F → F → Type 0
RefusedBy memory reason fault = ((fault ≡ memory) × (reason ≡ None)) ⊎ (reason ≡ Some fault)
