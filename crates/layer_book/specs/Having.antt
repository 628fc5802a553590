-- Marked segments compared with those that base layers have in a column.
use Rattle.std.specs.Prelude.{ℕ, List, [], ◌∷◌, map, filter, Option, Some, None, if◌then◌else◌}
use Rattle.overlay_terms.specs.Plane.{Segment}
use Rattle.overlay_terms.specs.Column.{touches}
use Rattle.overlay_terms.specs.Layers.{Marked}
use Rattle.overlay_terms.specs.SameInput.{same_marked}
use Rattle.overlay_terms.specs.Tiles.{Input}
use Rattle.overlay_terms.specs.Trees.{Steps}
use Rattle.arrange.specs.Marked.{kept_in}

-- the segments that have a point in a column, each with the number of its base layer
abbrev pub marks_in : ℕ → ℕ → List Segment → List Marked
marks_in column number segs = map (λ s. record { layer = number; segment = s }) (filter (touches column) segs)

-- the input of a column whose segments are among marked ones
abbrev pub part_in : ℕ → List Marked → Steps → Input
part_in column marked steps = record { column = column; marked = kept_in column marked; steps = steps }

-- what of marked segments follows the expected ones; none where they do not begin with these
abbrev pub past : List Marked → List Marked → Option (List Marked)
past [] marked = Some marked
past (e ∷ expected) [] = None
past (e ∷ expected) (m ∷ marked) = if same_marked m e then past expected marked else None
