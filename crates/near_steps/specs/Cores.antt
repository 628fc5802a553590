-- Cores: boxes so small that the plane, seen from their low corner, goes farther on each side.
use Rattle.std.specs.Prelude.{ℤ, pos, neg_ℤ, ◌+ℤ◌, ◌-ℤ◌, ◌≤ℤ◌, ◌&&◌, int_le, int_lt, Bool}
use Rattle.overlay_terms.specs.Plane.{WholePoint, coordinate_max}
use Rattle.block_reading.specs.Jobs.{far_max}
use Rattle.block_reading.specs.Terms.{Core}
use Rattle.map_window.specs.Window.{Box}

-- the core of a job as a box
abbrev pub box_of : Core → Box
box_of c = record { low_x = c.low_x; high_x = c.high_x; low_y = c.low_y; high_y = c.high_y }

-- the corner of a box at its low ends
abbrev pub low_of : Box → WholePoint
low_of core = record { x = core.low_x; y = core.low_y }

-- whether two coordinates of blocks are the ends of a span that is less than 2^20 long
abbrev pub is_close_span : ℤ → ℤ → Bool
is_close_span low high =
    (int_le (neg_ℤ (pos far_max)) low && int_le high (pos far_max)) && (int_le low high && int_lt (high -ℤ low) (pos coordinate_max))

-- whether a box lies within the coordinates of blocks, and is less than 2^20 wide and high
abbrev pub fits : Box → Bool
fits core = is_close_span core.low_x core.high_x && is_close_span core.low_y core.high_y

-- where the points lie that the plane holds, seen from the low corner of a core
abbrev pub plane_of : Box → Box
plane_of core =
    record {
      low_x = core.low_x -ℤ pos coordinate_max;
      high_x = core.low_x +ℤ pos coordinate_max;
      low_y = core.low_y -ℤ pos coordinate_max;
      high_y = core.low_y +ℤ pos coordinate_max;
    }

-- a box lies in another
pub record IsPart (part whole : Box) : Type 0 where
  pub left : whole.low_x ≤ℤ part.low_x
  pub right : part.high_x ≤ℤ whole.high_x
  pub low : whole.low_y ≤ℤ part.low_y
  pub high : part.high_y ≤ℤ whole.high_y
