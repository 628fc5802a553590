-- The inputs of strips: the segments that have a point in neighbouring columns.
use Rattle.std.specs.Prelude.{ℕ, ◌+◌, ◌≤◌, int_le, int_lt, ◌&&◌, Bool, List, filter}
use Rattle.overlay_terms.specs.Plane.{Segment}
use Rattle.overlay_terms.specs.Column.{border}
use Rattle.overlay_terms.specs.Layers.{Marked}
use Rattle.crossing_sweep.specs.StripInput.{Span, StripInput}

-- the segment has a point in the strip
abbrev pub meets : Span → Segment → Bool
meets strip s = int_le (border strip.first) s.right.x && int_lt s.left.x (border (strip.last + 1))

-- the segments that have a point in a strip
abbrev pub kept_in_strip : Span → List Marked → List Marked
kept_in_strip strip marked = filter (λ m. meets strip m.segment) marked

-- a column of the strip of an input
abbrev pub IsColumnOf : StripInput → ℕ → Type 0
IsColumnOf input k = (input.strip.first ≤ k) × (k ≤ input.strip.last)
