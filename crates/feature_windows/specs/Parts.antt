-- Boxes that make up another.
use Rattle.std.specs.Prelude.{◌≡◌, ℤ, pos, ◌+ℤ◌, ◌-ℤ◌, ◌*ℤ◌, ◌≤ℤ◌, ◌<ℤ◌, ◌&&◌, int_le, int_lt, Bool, true, false, List, [], ◌∷◌, count_by, All, if◌then◌else◌}
use Rattle.std.specs.List.{list_any}
use Rattle.overlay_terms.specs.Plane.{Point}
use Rattle.block_reading.specs.Terms.{Core}
use Rattle.map_window.specs.Window.{Box}
use Rattle.near_steps.specs.Cores.{IsPart}

-- whether a point lies in a box or on its border
abbrev pub is_in : Box → Point → Bool
is_in box q =
    (int_le (box.low_x *ℤ q.w) q.x && int_le q.x (box.high_x *ℤ q.w))
    && (int_le (box.low_y *ℤ q.w) q.y && int_le q.y (box.high_y *ℤ q.w))

-- whether a box has a point for its own: one within it, or on its left or its high side, so that of boxes side by side one
-- alone has it
abbrev pub holds : Box → Point → Bool
holds box q =
    (int_le (box.low_x *ℤ q.w) q.x && int_lt q.x (box.high_x *ℤ q.w))
    && (int_lt (box.low_y *ℤ q.w) q.y && int_le q.y (box.high_y *ℤ q.w))

abbrev pub area_of : Box → ℤ
area_of box = (box.high_x -ℤ box.low_x) *ℤ (box.high_y -ℤ box.low_y)

-- the areas of boxes in all
abbrev pub areas_of : List Box → ℤ
areas_of [] = pos 0
areas_of (box ∷ boxes) = area_of box +ℤ areas_of boxes

-- boxes make up another
pub record MakeUp (whole : Box) (parts : List Box) : Type 0 where
  -- a point lies in it or on its border exactly where it does of one of them
  pub cover : (q : Point) → pos 0 <ℤ q.w → list_any (λ part. is_in part q) parts ≡ is_in whole q
  -- each point that it has for its own is one part's and no other's, and no part has another point
  pub once : (q : Point) → pos 0 <ℤ q.w → count_by (λ part. holds part q) parts ≡ (if holds whole q then 1 else 0)
  pub area : areas_of parts ≡ area_of whole
  pub within : All (λ part. IsPart part whole) parts

-- the low ends of a core come before the high ones, by x or by y
abbrev pub IsLong : Bool → Core → Type 0
IsLong true core = core.low_x ≤ℤ core.high_x
IsLong false core = core.low_y ≤ℤ core.high_y

-- a box is cut in two at an x
pub record IsCutUpright (at : ℤ) (whole first second : Box) : Type 0 where
  pub after : whole.low_x ≤ℤ at
  pub before : at ≤ℤ whole.high_x
  pub first_is : first ≡ record { low_x = whole.low_x; high_x = at; low_y = whole.low_y; high_y = whole.high_y }
  pub second_is : second ≡ record { low_x = at; high_x = whole.high_x; low_y = whole.low_y; high_y = whole.high_y }

-- at a y
pub record IsCutLevel (at : ℤ) (whole first second : Box) : Type 0 where
  pub after : whole.low_y ≤ℤ at
  pub before : at ≤ℤ whole.high_y
  pub first_is : first ≡ record { low_x = whole.low_x; high_x = whole.high_x; low_y = whole.low_y; high_y = at }
  pub second_is : second ≡ record { low_x = whole.low_x; high_x = whole.high_x; low_y = at; high_y = whole.high_y }

-- at one or the other
pub data IsCut (whole first second : Box) : Type 0 where
  upright : (at : ℤ) → IsCutUpright at whole first second → IsCut whole first second
  level : (at : ℤ) → IsCutLevel at whole first second → IsCut whole first second
