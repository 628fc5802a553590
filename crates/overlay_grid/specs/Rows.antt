-- Rows out of columns.
use Rattle.std.specs.Prelude.{ℕ, List, [], ◌∷◌, ◌++◌, map, flat_map, codes, decimal, slice_index}
use Rattle.std.specs.List.{range_with_len}
use Rattle.overlay_terms.specs.Layers.{Marked}
use Rattle.overlay_terms.specs.Trees.{Steps}
use Rattle.overlay_grid.specs.Column.{mark_at}
use Rattle.overlay_grid.specs.Grid.{Grid, grid_point}

-- a column of the picture, from below, by the segments and steps in reach
abbrev pub column_at : List Marked → Steps → Grid → ℕ → List ℕ
column_at marked steps g i = map (λ j. mark_at marked steps (grid_point g i j)) (range_with_len 0 g.ny)

-- all columns, from left to right
abbrev pub columns_of : List Marked → Steps → Grid → List (List ℕ)
columns_of marked steps g = map (column_at marked steps g) (range_with_len 0 g.nx)

-- a row out of columns, with the end of its line
abbrev pub row_of : List (List ℕ) → ℕ → List ℕ
row_of columns j = map (λ c. slice_index c j) columns ++ 10 ∷ []

-- the picture out of columns
abbrev pub rows_text : Grid → List (List ℕ) → List ℕ
rows_text g columns =
    codes "grid " ++ (decimal g.nx
    ++ (codes " " ++ (decimal g.ny ++ (10 ∷ flat_map (row_of columns) (range_with_len 0 g.ny)))))
