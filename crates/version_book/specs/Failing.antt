-- Which faults of its store a log may report.
use Rattle.std.specs.Prelude.{List, Option, IfSome}
use Rattle.overlay_terms.specs.Histories.{Entry}
use Rattle.book_history.specs.Reporting.{MayBeReported}
use Rattle.book_history.specs.declared.fault.ReportedFault.{ReportedFault}
use Rattle.book_history.specs.declared.fault.BookFault.{BookFault}
use Rattle.book_history.specs.declared.fault.BookFault.TheVariants.{Store}

-- of a beginning of a log a store failed for this fault, if there is one
abbrev pub HasFailed : (List Entry → ReportedFault → Type 0) → List Entry → Option ReportedFault → Type 0
HasFailed failed log fault = ∥ IfSome fault (MayBeReported failed log) ∥₁

-- a refusal by a store's fault: of a beginning of a log the store failed for it
abbrev pub IsReportedFault : (List Entry → ReportedFault → Type 0) → List Entry → BookFault → Type 0
IsReportedFault failed log (Store fault) = ∥ MayBeReported failed log fault ∥₁
IsReportedFault failed log refused = Unit {0}
