-- How it is reported to the book why a store does not write.
use Rattle.commit_plan.specs.declared.fault.StoreFault as store
use Rattle.commit_plan.specs.declared.fault.StoreFault.TheVariants.{Full, Failed}
use Rattle.commit_plan.specs.declared.fault.StoreFault.TheVariants.{SequenceLimit, OutOfMemory}
use Rattle.book_history.specs.declared.fault.ReportedFault as book
use Rattle.book_history.specs.declared.fault.ReportedFault.TheVariants as reported

-- a fault of a store as one of the book, under the same number; no commit is refused for what is wrong with a file
abbrev pub reported_fault_of : store.StoreFault → book.ReportedFault
reported_fault_of Full = reported.Full
reported_fault_of Failed = reported.Failed
reported_fault_of SequenceLimit = reported.SequenceLimit
reported_fault_of OutOfMemory = reported.OutOfMemory
reported_fault_of fault = reported.Device
