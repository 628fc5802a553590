-- A law of spots.
use Rattle.std.specs.Prelude.{◌≡◌, ◌<◌, pos, ◌<ℤ◌, int_lt, List, length, All, if◌then◌else◌}
use Rattle.overlay_terms.specs.Plane.{WholePoint, Point, ring_segments, segments_of, is_inside}
use Rattle.overlay_terms.specs.InputLaws.{IsClosed}
use Rattle.overlay_terms.specs.Laws.{is_on_any}
use Rattle.feature_spots.specs.Spots.{fine_max, spot_of}
use Rattle.feature_spots.specs.declared.spot.Spot.TheVariants.{Outside, Inside, OnEdge, TooFine}

-- a ring is closed, and has two different points
pub record IsDrawn (ring : List WholePoint) : Type 0 where
  pub closed : IsClosed ring
  pub some : 0 < length (ring_segments ring)

-- of such rings a spot is what a store says of a layer: on an edge where the point is on a segment, else inside, even-odd
abbrev pub SpotsAreOfSegments : Type 0
SpotsAreOfSegments =
    (rings : List (List WholePoint)) (p : Point) → All IsDrawn rings → pos 0 <ℤ p.w →
    spot_of rings p
    ≡ (if int_lt (pos fine_max) p.w then TooFine
    else if is_on_any (segments_of rings) p then OnEdge
    else if is_inside (segments_of rings) p then Inside
    else Outside)
