-- Pieces by the names of their ends.
use Rattle.overlay_terms.specs.Plane.{Point, Segment}
use Rattle.exact_point.specs.PlaceOf.{place_of}
use Rattle.exact_point.specs.declared.point_name.PointName.{PointName}

-- a stretch of a segment, its support, between two named places
pub record NamedPiece : Type 0 where
  pub support : Segment
  pub from : PointName
  pub to : PointName

-- the places of its ends
abbrev pub ends_of : NamedPiece → Point × Point
ends_of p = (place_of p.from, place_of p.to)
