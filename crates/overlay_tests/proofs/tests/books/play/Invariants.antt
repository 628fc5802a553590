-- The book is named by the history that was just opened. It has no disk, so the rows report any number and fault; they submit any commands, by two sessions.
use Rattle.overlay_tests.proofs.tests.books.play.Given as goal

abbrev pub ghosts-play_in : goal.ghosts-play_in
ghosts-play_in g a = record { book = a.opened.1.book; store = a.name; stored = λ log number. Unit {0}; failed = λ log fault. Unit {0}; asked = λ session commands. Unit {0}; seats = 2 }
