use Rattle.std.proofs.Common.{◌≡◌, ℕ, ◌+◌, map}
use Rattle.std.specs.List.{range_with_len}
use Rattle.overlay_terms.specs.Trees.{mask_bits, steps_value}
use Rattle.overlay_grid.specs.Column.{mark_by}
use Rattle.overlay_grid.specs.Turning.{is_marked, turned}
use Rattle.overlay_grid.proofs.columns.marks.Given as goal

-- the answers at the first points, and a mask of what has changed up to the last of them
abbrev pub invariant-loop-j : goal.invariant-loop-j
invariant-loop-j l = record {
  answered : l.marks.items ≡ map (λ j. mark_by (is_marked l.edges j) (steps_value l.steps (turned l.turns (j + 1)))) (range_with_len 0 l.j);
  bits : (k : ℕ) → mask_bits l.mask k ≡ turned l.turns l.j k;
}
