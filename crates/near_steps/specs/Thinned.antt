-- Lines without points that change nothing within a core.
use Rattle.std.specs.Prelude.{◌≡◌, pos, ◌<ℤ◌, ◌≤◌, ◌&&◌, ◌||◌, int_lt, Bool, true, List, [], ◌∷◌, ◌++◌, length, All, Contains, if◌then◌else◌}
use Rattle.overlay_terms.specs.Plane.{WholePoint, Point, is_closed, ring_segments}
use Rattle.map_window.specs.Window.{Box, Side, IsIn, Lies, AreAlike}
use Rattle.map_window.specs.Drawn.{share_side, are_short}
use Rattle.near_steps.specs.Cores.{IsPart, plane_of}
use Rattle.near_steps.specs.declared.sides.Sides.{Sides}
use Rattle.near_steps.specs.declared.step.Spot.{Spot}
use Rattle.near_steps.specs.declared.step.Step.{Step}

-- off which sides of a core a point lies
abbrev pub sides_of : Box → WholePoint → Sides
sides_of core a = record {
  left = int_lt a.x core.low_x;
  right = int_lt core.high_x a.x;
  under = int_lt a.y core.low_y;
  over = int_lt core.high_y a.y;
}

-- whether three points have a side in common
abbrev pub common : Sides → Sides → Sides → Bool
common a b c = (a.left && b.left && c.left || a.right && b.right && c.right) || (a.under && b.under && c.under || a.over && b.over && c.over)

-- what follows the first point of a line, before one that follows the second: of three on one side the middle one is left out
abbrev pub rest_of : Box → WholePoint → WholePoint → List WholePoint → List WholePoint
rest_of core a b [] = b ∷ []
rest_of core a b (c ∷ rest) = if share_side core a b c then rest_of core a c rest else b ∷ rest_of core b c rest

-- a line without those points
abbrev pub thinned : Box → List WholePoint → List WholePoint
thinned core [] = []
thinned core (a ∷ []) = a ∷ []
thinned core (a ∷ b ∷ rest) = a ∷ rest_of core a b rest

-- the last two points of a line and one more: where all have a side in common, that one is in the place of the last
abbrev pub stepped : Step → Spot → Step
stepped step next =
    if common step.from.off step.to.off next.off then record { from = step.from; to = next } else record { from = step.to; to = next }

-- else the last one is kept
abbrev pub kept_after : List WholePoint → Step → Spot → List WholePoint
kept_after kept step next = if common step.from.off step.to.off next.off then kept else kept ++ step.to.at ∷ []

-- what is left of a line for a core and for each part of it
pub record IsReduced (core : Box) (points kept : List WholePoint) : Type 0 where
  -- from each point of the core it looks the same
  pub shows : (q : Point) → pos 0 <ℤ q.w → IsIn core q → AreAlike (ring_segments kept) q (ring_segments points) q
  -- as before, its steps may be drawn for a part of the core, or one is too long
  pub short : (part : Box) → IsPart part core → are_short part (plane_of part) kept ≡ are_short part (plane_of part) points
  -- it is closed if it was
  pub closed : is_closed points ≡ true → is_closed kept ≡ true
  -- no point is new
  pub among : All (Contains points) kept
  pub few : length kept ≤ length points
  -- two points at most, where it lies off the core on one side
  pub off : (side : Side) → All (Lies core side) points → length kept ≤ 2
