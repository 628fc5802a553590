-- Pieces of the boundary.
use Rattle.std.specs.Prelude.{◌≡◌, ◌<ℤ◌, pos, IsTrue}
use Rattle.std.specs.declared.cmp.Ordering.TheVariants.{Less}
use Rattle.overlay_terms.specs.Plane.{Segment, point_cmp, is_on}
use Rattle.exact_point.specs.PointName.{HasPlace}
use Rattle.exact_point.specs.PlaceOf.{place_of}
use Rattle.exact_point.specs.declared.point_name.PointName.{PointName}

-- both names have places on the support, the first before the second
pub record IsBetween (support : Segment) (from to : PointName) : Type 0 where
  pub from_named : HasPlace from
  pub to_named : HasPlace to
  pub from_positive : pos 0 <ℤ (place_of from).w
  pub to_positive : pos 0 <ℤ (place_of to).w
  pub from_on : IsTrue (is_on support (place_of from))
  pub to_on : IsTrue (is_on support (place_of to))
  pub in_order : point_cmp (place_of from) (place_of to) ≡ Less
