-- The book is named by the history that was just opened. It has no store, so nothing is stored and none failed; its one session may be asked for any commands.
use Rattle.kept_store.specs.Beginning.{name_in}
use Rattle.server_tests.proofs.tests.books.run_script.Given as goal

abbrev pub ghosts-run_in : goal.ghosts-run_in
ghosts-run_in g a = record { book = a.history.1.book; store = name_in a.store.flusher; stored = λ log number. ⊥; failed = λ log fault. ⊥; asked = λ session commands. Unit {0}; seats = 1 }
