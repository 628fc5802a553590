use Rattle.std.proofs.Common.{◌≡◌, replicate, None}
use Rattle.overlay_terms.specs.Column.{column_count}
use Rattle.layer_tiles.proofs.table.empty_rows.Given as goal

-- so many empty rows
abbrev pub invariant-loop : goal.invariant-loop
invariant-loop l = l.rows.items ≡ replicate l.counter (replicate column_count None)
