use Rattle.std.proofs.Common.{◌≡◌, ◌++◌, ◌∷◌, map, flat_map}
use Rattle.std.specs.Prelude.{codes, decimal}
use Rattle.std.specs.List.{range_with_len}
use Rattle.overlay_grid.specs.Rows.{row_of}
use Rattle.overlay_grid.proofs.rows.written.Given as goal

-- the first rows have been added
abbrev pub invariant-loop-j : goal.invariant-loop-j
invariant-loop-j l = l.text.items ≡ codes "grid " ++ (decimal l.nx ++ (codes " " ++ (decimal l.ny ++ (10 ∷ flat_map (row_of (map (λ c. c.items) l.columns)) (range_with_len 0 l.j)))))
