-- The reporter stays one of this book.
use Rattle.std.proofs.Common.{◌≡◌}
use Rattle.overlay_tests.proofs.tests.threads.report_all.Given as goal

abbrev pub invariant-news : goal.invariant-news
invariant-news g l = l.reporter.book ≡ l.initial.reporter.book
