-- Spots as points of the plane.
use Rattle.overlay_terms.specs.Plane.{Point}
use Rattle.exact_point.specs.Place.{place}
use Rattle.point_looks.specs.declared.spot.Spot.{Spot}

abbrev pub point_of : Spot → Point
point_of s = place s.at
