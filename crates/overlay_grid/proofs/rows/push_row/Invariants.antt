use Rattle.std.proofs.Common.{◌≡◌, ◌++◌, map, take}
use Rattle.std.specs.Prelude.{slice_index}
use Rattle.overlay_grid.proofs.rows.push_row.Given as goal

-- the characters of the first columns have been added
abbrev pub invariant-loop-column : goal.invariant-loop-column
invariant-loop-column l = l.text.items ≡ l.initial.text.items ++ map (λ c. slice_index c.items l.j) (take l.column-index l.columns)
