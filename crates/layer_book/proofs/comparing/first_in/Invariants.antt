use Rattle.std.proofs.Common.{◌≡◌, ◌≤◌, filter, drop}
use Rattle.overlay_terms.specs.Column.{touches}
use Rattle.layer_book.proofs.comparing.first_in.Given as goal

-- none of those so far has a point in the column
abbrev pub invariant-loop-i : goal.invariant-loop-i
invariant-loop-i l = record {
  behind : l.from ≤ l.i;
  same : filter (touches l.column) (drop l.from l.segs) ≡ filter (touches l.column) (drop l.i l.segs);
}
