use Rattle.std.proofs.Common.{◌≡◌, ◌≤◌}
use Rattle.layer_book.proofs.HavingLemmas.{left_in}
use Rattle.layer_book.proofs.having_input.first_marked.Given as goal

-- none of those so far has a point in the column
abbrev pub invariant-loop-i : goal.invariant-loop-i
invariant-loop-i l = record {
  after : l.from ≤ l.i;
  same : left_in l.column l.marked l.from ≡ left_in l.column l.marked l.i;
}
