-- How a session reports what the book refuses.
use Rattle.std.specs.Prelude.{◌≡◌, ◌⊎◌, ℕ, List}
use Rattle.overlay_terms.specs.Commands.{Refusal}
use Rattle.layer_book.specs.Fault.{fault_of}
use Rattle.versions.specs.declared.fault.VersionFault.TheVariants.{Layer}
use Rattle.book_history.specs.declared.fault.BookFault.{BookFault}
use Rattle.book_history.specs.declared.fault.BookFault.TheVariants as book
use Rattle.book_history.specs.declared.fault.ReportedFault.{ReportedFault}
use Rattle.book_history.specs.declared.fault.ReportedFault.TheVariants as store
use Rattle.script_form.specs.declared.fault.CommandFault.{CommandFault}
use Rattle.script_form.specs.declared.open_batch.LinesFault.{LinesFault}
use Rattle.script_form.specs.declared.open_batch.LinesFault.TheVariants as lines
use Rattle.script_form.specs.Fault.{code_of}
use Rattle.script_form.specs.Replies.{error_line, refused_line}
use Rattle.script_form.specs.declared.fault.CommandFault.TheVariants.{Version, Device, Full, StoreFailed, SequenceLimit, OutOfMemory, Closing, Gone, NoStore}

abbrev pub store_fault_of : ReportedFault → CommandFault
store_fault_of store.Device = Device
store_fault_of store.Full = Full
store_fault_of store.Failed = StoreFailed
store_fault_of store.SequenceLimit = SequenceLimit
store_fault_of store.OutOfMemory = OutOfMemory

abbrev pub command_fault_of : BookFault → CommandFault
command_fault_of (book.Version fault) = Version fault
command_fault_of book.Closing = Closing
command_fault_of book.Gone = Gone
command_fault_of book.NoStore = NoStore
command_fault_of (book.Store fault) = store_fault_of fault

-- a fault by which a batch is refused: a refusal of the definitions, or the book closes, or
-- is not as far, or memory ran out
abbrev pub IsBatchFault : CommandFault → Type 0
IsBatchFault fault =
    ((reason : Refusal) × (fault ≡ Version (Layer (fault_of reason)))) ⊎ (fault ≡ Closing) ⊎ (fault ≡ Gone) ⊎ (fault ≡ OutOfMemory)

-- the one whose number it is
pub record IsNumbered (code : ℕ) (fault : CommandFault) : Type 0 where
  pub one_of : IsBatchFault fault
  pub number : code_of fault ≡ code

-- one of them has the number
abbrev pub IsBatchNumber : ℕ → Type 0
IsBatchNumber code = (fault : CommandFault) × IsNumbered code fault

-- the bytes that say why the lines of a batch are not read as commands
abbrev pub lines_reported : LinesFault → List ℕ
lines_reported (lines.Unread place fault) = refused_line place fault
lines_reported lines.OutOfMemory = error_line OutOfMemory
