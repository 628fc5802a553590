-- The names of places: an end of a segment, a crossing, a place on a column's border.
use Rattle.std.specs.Prelude.{◌≡◌, ℕ, pos, ◌*ℤ◌, ◌<ℤ◌, ◌<◌, IsTrue}
use Rattle.overlay_terms.specs.Plane.{Point, Segment, whole, same_place, is_on}
use Rattle.overlay_terms.specs.Column.{column_count, border}
use Rattle.exact_point.specs.Crossing.{IsCrossingOf}
use Rattle.exact_point.specs.declared.point_name.PointName.{PointName}
use Rattle.exact_point.specs.declared.point_name.PointName.TheVariants.{Vertex, Cross, Border}

-- the border of the column lies strictly between the ends of s, by x
pub record IsCutBy (s : Segment) (column : ℕ) : Type 0 where
  pub known_column : column < column_count
  pub after_left : s.left.x <ℤ border column
  pub before_right : border column <ℤ s.right.x

-- p is where the border of the column cuts s, strictly between its ends
pub record IsCutOf (s : Segment) (column : ℕ) (p : Point) : Type 0 where
  pub cut : IsCutBy s column
  pub on_segment : IsTrue (is_on s p)
  pub on_border : p.x ≡ border column *ℤ p.w

-- p is the place of a name
abbrev pub IsPlaceOf : PointName → Point → Type 0
IsPlaceOf (Vertex v) p = IsTrue (same_place (whole v) p)
IsPlaceOf (Cross a b) p = IsCrossingOf a b p
IsPlaceOf (Border s column) p = IsCutOf s column p

-- a name has no place but z
abbrev pub IsOnlyPlaceOf : PointName → Point → Type 0
IsOnlyPlaceOf name z = (p : Point) → pos 0 <ℤ p.w → IsPlaceOf name p → IsTrue (same_place z p)

-- a name has a place
abbrev pub HasPlace : PointName → Type 0
HasPlace (Vertex v) = Unit {0}
HasPlace (Cross a b) = (p : Point) × (pos 0 <ℤ p.w) × IsCrossingOf a b p
HasPlace (Border s column) = IsCutBy s column
