-- The tokens stay those of this book.
use Rattle.std.proofs.Common.{◌≡◌}
use Rattle.overlay_tests.proofs.tests.books.play_lists.Given as goal

abbrev pub invariant-lists : goal.invariant-lists
invariant-lists g l = l.tokens.reporter.book ≡ l.initial.tokens.reporter.book
