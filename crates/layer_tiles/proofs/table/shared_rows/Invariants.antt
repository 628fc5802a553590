use Rattle.std.proofs.Common.{◌≡◌, take}
use Rattle.layer_tiles.proofs.table.shared_rows.Given as goal

-- the rows so far are shared
abbrev pub invariant-loop-row : goal.invariant-loop-row
invariant-loop-row l = l.copies.items ≡ take l.row-index l.rows
