-- The faults by which a command or a batch is refused.
use Rattle.layer_book.specs.declared.batch_fault.BatchFault.{BatchFault}
use Rattle.versions.specs.declared.fault.VersionFault.{VersionFault}
use Rattle.book_history.specs.declared.fault.BookFault.{BookFault}
use Rattle.book_history.specs.declared.fault.BookFault.TheVariants as fault
use Rattle.book_history.specs.Fault.{whole}
use Rattle.book_lock.specs.declared.refused.Refused.{Refused}
use Rattle.book_lock.specs.declared.refused.Refused.TheVariants.{Gone, Closing, Version}

-- the fault by which a command is refused so
abbrev pub command_fault : Refused VersionFault → BookFault
command_fault Gone = fault.Gone
command_fault Closing = fault.Closing
command_fault (Version refused) = fault.Version refused

-- the fault by which a batch is refused so
abbrev pub batch_fault : Refused BatchFault → BatchFault
batch_fault Gone = whole fault.Gone
batch_fault Closing = whole fault.Closing
batch_fault (Version refused) = refused
