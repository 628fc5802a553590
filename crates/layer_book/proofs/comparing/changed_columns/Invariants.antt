use Rattle.std.proofs.Common.{◌≡◌, not, map, take, length}
use Rattle.std.specs.Cmp.Lexicographic.{pointwise}
use Rattle.overlay_terms.specs.Column.{column_count, columns}
use Rattle.overlay_terms.specs.SameInput.{same_marked}
use Rattle.layer_book.specs.Touching.{marked_in}
use Rattle.layer_book.proofs.comparing.changed_columns.Given as goal

-- the columns so far are judged
abbrev pub invariant-loop-number : goal.invariant-loop-number
invariant-loop-number l = record {
  room : length l.changed ≡ column_count;
  so_far : take l.number l.changed ≡ map (λ k. not (pointwise same_marked (marked_in k (map (λ b. b.now) l.new)) (marked_in k (map (λ b. b.now) l.old)))) (take l.number columns);
}
