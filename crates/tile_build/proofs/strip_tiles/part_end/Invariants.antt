use Rattle.std.proofs.Common.{◌≡◌, ℕ, ◌-◌, ◌<◌, ◌≤◌, true, false, length, get_or}
use Rattle.overlay_terms.specs.Column.{is_in_column}
use Rattle.crossing_sweep.specs.NodeNames.{named_ends}
use Rattle.crossing_sweep.specs.declared.row.Row.{Row}
use Rattle.tile_build.proofs.strip_tiles.part_end.Given as goal

-- the rows before one begin in the column, those from another on do not
abbrev pub invariant-loop-low : goal.invariant-loop-low
invariant-loop-low l = record {
  from : l.fn.start ≤ l.low;
  order : l.low ≤ l.high;
  to : l.high ≤ length l.fn.rows;
  within : (i : ℕ) (d : Row) → l.fn.start ≤ i → i < l.low → is_in_column l.fn.column (named_ends l.fn.names (get_or l.fn.rows i d)).0 ≡ true;
  beyond : (i : ℕ) (d : Row) → l.high ≤ i → i < length l.fn.rows → is_in_column l.fn.column (named_ends l.fn.names (get_or l.fn.rows i d)).0 ≡ false;
}

abbrev pub decreases-loop-low : goal.decreases-loop-low
decreases-loop-low l = l.high - l.low
