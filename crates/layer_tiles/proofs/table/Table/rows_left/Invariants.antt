use Rattle.std.proofs.Common.{◌≡◌, take}
use Rattle.layer_book.specs.Command.{command}
use Rattle.layer_tiles.specs.Table.{laid, left_at, placed_rows, rows_by}
use Rattle.layer_tiles.proofs.table.Table.rows_left.Given as goal

-- the rows of the layers so far
abbrev pub invariant-loop-place : goal.invariant-loop-place
invariant-loop-place l = placed_rows l.rows.items ≡ rows_by (left_at (laid l.self) (command l.change)) (take l.place l.after)
