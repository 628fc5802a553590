-- What a session knows of its book's store.
use Rattle.std.specs.Prelude.{◌≡◌, ℕ, Bool, false, List}
use Rattle.overlay_terms.specs.Histories.{Entry, History}
use Rattle.book_history.specs.Logs.{history_of}
use Rattle.book_history.specs.declared.fault.ReportedFault.{ReportedFault}
use Rattle.book_lock.specs.Reporting.{ReportsStored, MayBeReported}
use Rattle.script_form.specs.declared.fault.CommandFault.{CommandFault}
use Rattle.script_form.specs.Transcript.{BookStore, StoreReport, of_number, of_fault, store_by}
use Rattle.server_session.specs.Fault.{store_fault_of}

-- the number that a history reports durable is that of its first version, or was stored of a beginning of its log
abbrev pub NumberMayBeReportedAt : (List Entry → ℕ → Type 0) → History → Type 0
NumberMayBeReportedAt stored history = (log : List Entry) × (history_of log ≡ history) × ReportsStored stored log

-- a fault is that of a store which failed so, of a beginning of a history's log
pub record FaultMayBeReportedAt (failed : List Entry → ReportedFault → Type 0) (history : History) (fault : CommandFault) : Type 0 where
  pub log : List Entry
  pub of : history_of log ≡ history
  pub reported : ReportedFault
  pub same : fault ≡ store_fault_of reported
  pub failed_so : ∥ MayBeReported failed log reported ∥₁

-- what may be reported of a store at a history: its durable number, or a fault of the store
abbrev pub MayBeReportedAt : (List Entry → ℕ → Type 0) → (List Entry → ReportedFault → Type 0) → History → StoreReport → Type 0
MayBeReportedAt stored failed history of_number = NumberMayBeReportedAt stored history
MayBeReportedAt stored failed history (of_fault fault) = FaultMayBeReportedAt failed history fault

-- whether there is a store, by what counts as stored, and for what it failed
abbrev pub store_of : (List Entry → ℕ → Type 0) → (List Entry → ReportedFault → Type 0) → Bool → BookStore
store_of stored failed there = store_by (MayBeReportedAt stored failed) there

-- none, for a reply that does not ask it
abbrev pub no_store : BookStore
no_store = store_by (λ history report. ⊥) false
