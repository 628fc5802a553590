-- Points one above the other, at equal steps.
use Rattle.std.specs.Prelude.{ℕ, pos, ◌+ℤ◌, ◌*ℤ◌}
use Rattle.overlay_terms.specs.Plane.{Point}
use Rattle.overlay_grid.specs.declared.rising.Rise.{Rise}

-- the point below which there are so many points
abbrev pub point_at : Rise → ℕ → Point
point_at rise j = record { x = rise.x; y = rise.y +ℤ (rise.step *ℤ pos j); w = pos 1 }

-- the first of the points
abbrev pub start_of : Rise → Point
start_of rise = record { x = rise.x; y = rise.y; w = pos 1 }
