-- One row less is left.
use Rattle.std.proofs.Common.{length, ◌-◌}
use Rattle.overlay_tests.proofs.tests.books.+play_rows.Given as goal

abbrev pub decreases-play_rows : goal.decreases-play_rows
decreases-play_rows g l = length l.rows.now - l.at
