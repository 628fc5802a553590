-- The session stays one of this book.
use Rattle.std.proofs.Common.{◌≡◌}
use Rattle.overlay_tests.proofs.tests.threads.carry_out.Given as goal

abbrev pub invariant-puts : goal.invariant-puts
invariant-puts g l = l.me.book ≡ l.initial.me.book
