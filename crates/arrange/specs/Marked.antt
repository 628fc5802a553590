-- Segments of the code with their layers, as segments of the definitions.
use Rattle.std.specs.Prelude.{ℕ, ◌*◌, List, map, filter, All}
use Rattle.overlay_terms.specs.Plane.{WholePoint, segments_of, steps_max}
use Rattle.overlay_terms.specs.Column.{touches}
use Rattle.overlay_terms.specs.Layers as terms
use Rattle.overlay_terms.specs.Layers.{layers_max}
use Rattle.overlay_terms.specs.TileLaws.{IsProper}
use Rattle.arrange.specs.declared.marked_seg.MarkedSeg.{MarkedSeg}

abbrev pub marked_of : MarkedSeg → terms.Marked
marked_of m = record { layer = m.layer; segment = m.seg }

-- the segments of a base layer, each with its number
abbrev pub marked_by : ℕ → List (List WholePoint) → List terms.Marked
marked_by layer rings = map (λ s. record { layer = layer; segment = s }) (segments_of rings)

-- the segments that have a point in a column
abbrev pub kept_in : ℕ → List terms.Marked → List terms.Marked
kept_in column marked = filter (λ m. touches column m.segment) marked

-- the most segments of an input: those of as many base layers as there may be, each with as many as it may have
abbrev pub segments_max : ℕ
segments_max = layers_max * steps_max

-- each segment has its left end first and its ends in range
abbrev pub AllProper : List terms.Marked → Type 0
AllProper marked = All (λ m. IsProper m.segment) marked
