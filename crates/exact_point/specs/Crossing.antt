-- Where two segments cross, and places along a segment.
use Rattle.std.specs.Prelude.{◌≡◌, ℤ, pos, ◌+ℤ◌, ◌-ℤ◌, ◌*ℤ◌, ◌<ℤ◌, false, IsTrue}
use Rattle.overlay_terms.specs.Plane.{Point, Segment, is_on, same_place}
use Rattle.overlay_terms.specs.Tiles.{is_parallel}

-- p is where a and b cross: they are not parallel, and it lies on both
pub record IsCrossingOf (a b : Segment) (p : Point) : Type 0 where
  pub not_parallel : is_parallel a b ≡ false
  pub on_first : IsTrue (is_on a p)
  pub on_second : IsTrue (is_on b p)

-- a and b cross nowhere: they are parallel, or no point lies on both
abbrev pub CrossNowhere : Segment → Segment → Type 0
CrossNowhere a b = (p : Point) → pos 0 <ℤ p.w → IsCrossingOf a b p → ⊥

-- a and b cross at the place z alone
abbrev pub IsOnlyCrossingOf : Segment → Segment → Point → Type 0
IsOnlyCrossingOf a b z = (p : Point) → pos 0 <ℤ p.w → IsCrossingOf a b p → IsTrue (same_place z p)

-- p lies t / w of the way from the left end of s to its right end
pub record IsPartWay (s : Segment) (t w : ℤ) (p : Point) : Type 0 where
  pub over : p.w ≡ w
  pub across : p.x ≡ (s.left.x *ℤ w) +ℤ ((s.right.x -ℤ s.left.x) *ℤ t)
  pub along : p.y ≡ (s.left.y *ℤ w) +ℤ ((s.right.y -ℤ s.left.y) *ℤ t)

-- the cross product of the directions of two segments: positive where the second turns left from the first
abbrev pub turn_of : Segment → Segment → ℤ
turn_of a b = (a.right.x -ℤ a.left.x) *ℤ (b.right.y -ℤ b.left.y) -ℤ (a.right.y -ℤ a.left.y) *ℤ (b.right.x -ℤ b.left.x)

-- the cross product of the way from the left end of a to that of b with the direction of d
abbrev pub lead_of : Segment → Segment → Segment → ℤ
lead_of a b d = (b.left.x -ℤ a.left.x) *ℤ (d.right.y -ℤ d.left.y) -ℤ (b.left.y -ℤ a.left.y) *ℤ (d.right.x -ℤ d.left.x)
