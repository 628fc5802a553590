-- The faults of the book: their numbers and texts, and what each says.
use Rattle.std.specs.Prelude.{◌≡◌, ◌⊎◌, ℕ, Bool, true, false, IsTrue, List}
use Rattle.std.specs.Option.{option_map}
use Rattle.fault_texts.specs.FaultTable.{text}
use Rattle.overlay_terms.specs.Commands.{Command, refusal_at}
use Rattle.overlay_terms.specs.Batches.{Batch, batch_refusal_at}
use Rattle.layer_book.specs.Fault.{RefusedBy}
use Rattle.layer_book.specs.BatchFault.{RefusedAllBy}
use Rattle.overlay_terms.specs.Histories.{Version}
use Rattle.layer_book.specs.declared.fault.LayerFault.TheVariants.{OutOfMemory as NoMemory}
use Rattle.layer_book.specs.declared.batch_fault.BatchFault.{BatchFault}
use Rattle.layer_book.specs.declared.batch_fault.BatchFault.TheVariants.{Whole}
use Rattle.versions.specs.Fault as version_fault
use Rattle.versions.specs.declared.fault.VersionFault.{VersionFault}
use Rattle.versions.specs.declared.fault.VersionFault.TheVariants.{Layer}
use Rattle.book_history.specs.declared.fault.ReportedFault.{ReportedFault}
use Rattle.book_history.specs.declared.fault.ReportedFault.TheVariants.{Device, Full, Failed, SequenceLimit, OutOfMemory}
use Rattle.book_history.specs.declared.fault.BookFault.{BookFault}
use Rattle.book_history.specs.declared.fault.BookFault.TheVariants as fault

-- the number under which a store's fault is printed
abbrev pub store_code_of : ReportedFault → ℕ
store_code_of Device = 30
store_code_of Full = 31
store_code_of Failed = 35
store_code_of SequenceLimit = 36
store_code_of OutOfMemory = 40

-- the number under which a fault is printed
abbrev pub code_of : BookFault → ℕ
code_of (fault.Version refused) = version_fault.code_of refused
code_of fault.Closing = 43
code_of fault.Gone = 44
code_of fault.NoStore = 46
code_of (fault.Store refused) = store_code_of refused

-- whether an accepted command takes a store's fault away
abbrev pub passes : ReportedFault → Bool
passes Device = false
passes Full = true
passes Failed = false
passes SequenceLimit = true
passes OutOfMemory = true

-- the text after a store's number
abbrev pub store_text_of : ReportedFault → List ℕ
store_text_of refused = text (store_code_of refused)

-- the text that is printed after the number
abbrev pub text_of : BookFault → List ℕ
text_of (fault.Version refused) = version_fault.text_of refused
text_of (fault.Store refused) = store_text_of refused
text_of refused = text (code_of refused)

-- memory ran out
abbrev pub no_memory : BookFault
no_memory = fault.Version (Layer NoMemory)

-- why a version refuses a command: the refusal of the definitions, or memory ran out where there is none
abbrev pub RefusesCommand : Version → Command → VersionFault → Type 0
RefusesCommand version command =
    RefusedBy (Layer NoMemory)
    (option_map version_fault.version_fault_of (refusal_at version.number version.layers command))

-- why a version refuses a batch, in the same way
abbrev pub RefusesBatch : Version → Batch → BatchFault → Type 0
RefusesBatch version batch = RefusedAllBy (batch_refusal_at version.number version.layers batch)

-- why a book refuses a command: its newest version does; or it closes, where it may; or it
-- is behind (each call says when)
abbrev pub IsCommandRefused : Bool → Version → Command → BookFault → Type 0
IsCommandRefused closing version command (fault.Version refused) = RefusesCommand version command refused
IsCommandRefused closing version command fault.Closing = IsTrue closing
IsCommandRefused closing version command fault.Gone = Unit {0}
IsCommandRefused closing version command fault.NoStore = ⊥
IsCommandRefused closing version command (fault.Store refused) = ⊥

-- the fault of a batch that is refused so, which is no single command's
abbrev pub whole : BookFault → BatchFault
whole refused = Whole (code_of refused)

-- why a book refuses a batch: it is behind (each call says when); or it closes, where it
-- may; or its newest version does
abbrev pub IsBatchRefused : Bool → Version → Batch → BatchFault → Type 0
IsBatchRefused closing version batch refused =
    (refused ≡ whole fault.Gone)
    ⊎ ((IsTrue closing × (refused ≡ whole fault.Closing)) ⊎ RefusesBatch version batch refused)
