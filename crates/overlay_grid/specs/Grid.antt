-- Grids of points, and the picture of a layer on one.
use Rattle.std.specs.Prelude.{ℕ, ℤ, ◌+ℤ◌, ◌*ℤ◌, ◌≤ℤ◌, ◌&&◌, [], ◌∷◌, ◌++◌, if◌then◌else◌}
use Rattle.std.specs.Prelude.{pos, Bool, not, List, map, flat_map, codes, decimal, unsigned_abs, Option, Some, None}
use Rattle.std.specs.List.{list_all, range_with_len}
use Rattle.overlay_terms.specs.Plane.{Point as PlanePoint, is_coordinate}
use Rattle.overlay_terms.specs.Layers.{Name, Layer as BookLayer, Location, inside, outside, edge, answer_at}
use Rattle.overlay_terms.specs.Commands.{stands}
use Rattle.exact_point.specs.declared.fault.PointFault.TheVariants.{PointRange}
use Rattle.layer_book.specs.declared.fault.LayerFault.TheVariants.{UnknownLayer}
use Rattle.overlay_grid.specs.declared.fault.GridFault.{GridFault}
use Rattle.overlay_grid.specs.declared.fault.GridFault.TheVariants.{Layer, Point}

-- nx by ny points, from (x, y) at equal steps to the right and up
pub record Grid : Type 0 where
  pub x : ℤ
  pub y : ℤ
  pub step : ℤ
  pub nx : ℕ
  pub ny : ℕ

-- the most points in a row or column
abbrev pub side_max : ℕ
side_max = 256

-- the longest step
abbrev pub step_max : ℕ
step_max = 2097152

-- a step, and how many points there are in a row and in a column
pub record IsGridSize (step nx ny : ℤ) : Type 0 where
  pub step_low : pos 1 ≤ℤ step
  pub step_high : step ≤ℤ pos step_max
  pub nx_low : pos 1 ≤ℤ nx
  pub nx_high : nx ≤ℤ pos side_max
  pub ny_low : pos 1 ≤ℤ ny
  pub ny_high : ny ≤ℤ pos side_max

-- the grid with these numbers
abbrev pub grid_with : ℤ → ℤ → ℤ → ℤ → ℤ → Grid
grid_with x y step nx ny = record { x = x; y = y; step = step; nx = unsigned_abs nx; ny = unsigned_abs ny }

-- the point with so many to its left and so many below it
abbrev pub grid_point : Grid → ℕ → ℕ → PlanePoint
grid_point g i j = record { x = g.x +ℤ (g.step *ℤ pos i); y = g.y +ℤ (g.step *ℤ pos j); w = pos 1 }

-- whether so many numbers at equal steps are coordinates
abbrev pub all_in_range : ℤ → ℤ → ℕ → Bool
all_in_range from step count = list_all (λ i. is_coordinate (from +ℤ (step *ℤ pos i))) (range_with_len 0 count)

-- whether each point of a grid is: the x of each column, and the y of each row
abbrev pub is_within_range : Grid → Bool
is_within_range g = all_in_range g.x g.step g.nx && all_in_range g.y g.step g.ny

-- the character of an answer
abbrev pub mark_of : Location → ℕ
mark_of inside = 35
mark_of outside = 46
mark_of edge = 43

-- a row of the picture, from left to right
abbrev pub grid_row : List BookLayer → Name → Grid → ℕ → List ℕ
grid_row layers name g j = map (λ i. mark_of (answer_at layers name (grid_point g i j))) (range_with_len 0 g.nx) ++ 10 ∷ []

-- the picture: how many points there are in a row and in a column, then the rows, the lowest first
abbrev pub grid_text : List BookLayer → Name → Grid → List ℕ
grid_text layers name g =
    codes "grid " ++ (decimal g.nx ++ (codes " " ++ (decimal g.ny ++ (10 ∷ flat_map (grid_row layers name g) (range_with_len 0 g.ny)))))

-- why no picture is drawn: no layer has the name; a point lies outside the coordinates
abbrev pub grid_refusal : List BookLayer → Name → Grid → Option GridFault
grid_refusal layers name g =
    if not (stands layers name) then Some (Layer UnknownLayer)
    else (if not (is_within_range g) then Some (Point PointRange) else None)
