use Rattle.std.proofs.Common.{◌≡◌, not, map, take, length}
use Rattle.overlay_terms.specs.Column.{column_count, columns}
use Rattle.layer_book.specs.Touching.{same_in}
use Rattle.layer_book.proofs.comparing.differing_columns.Given as goal

-- the columns so far are judged
abbrev pub invariant-loop-number : goal.invariant-loop-number
invariant-loop-number l = record {
  room : length l.differing ≡ column_count;
  so_far : take l.number l.differing ≡ map (λ k. not (same_in k l.new l.old)) (take l.number columns);
}
