-- The book is named by the history that was just opened, and its store is what it was opened with. Of it any number may
-- be reported stored, and any fault of the store; it has one session, which may be asked for any commands.
use Rattle.kept_store.specs.Beginning.{name_in}
use Rattle.server_tests.proofs.tests.flushing_tests.flushed.Given as goal

abbrev pub ghosts-flushed_in : goal.ghosts-flushed_in
ghosts-flushed_in g a = record { book = a.history.1.book; store = name_in a.store.flusher; stored = λ log number. Unit {0}; failed = λ log fault. Unit {0}; asked = λ session commands. Unit {0}; seats = 1 }
