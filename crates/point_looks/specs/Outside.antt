-- A point outside the ranges of a block.
use Rattle.std.specs.Prelude.{◌⊎◌, ◌<ℤ◌, ◌*ℤ◌, ◌&&◌, ℤ, Bool, int_le, int_lt}
use Rattle.overlay_terms.specs.Plane.{Segment, Point}
use Rattle.plane_base.specs.declared.bounds.Bounds.{Bounds}

-- a point lies left or right of the ranges, or below them
abbrev pub Misses : Bounds → Point → Type 0
Misses b p = (p.x <ℤ (b.low_x *ℤ p.w)) ⊎ (((b.high_x *ℤ p.w) <ℤ p.x) ⊎ (p.y <ℤ (b.low_y *ℤ p.w)))

-- a point lies above the ranges
abbrev pub IsOver : Bounds → Point → Type 0
IsOver b p = (b.high_y *ℤ p.w) <ℤ p.y

-- a segment goes from at most this x to more
abbrev pub reaches : ℤ → Segment → Bool
reaches x s = int_le s.left.x x && int_lt x s.right.x
