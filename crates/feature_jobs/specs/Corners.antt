-- The area of a ring by its corners.
use Rattle.std.specs.Prelude.{ℤ, pos, ◌+ℤ◌, ◌-ℤ◌, ◌*ℤ◌, neg_ℤ, int_lt, List, [], ◌∷◌, if◌then◌else◌}
use Rattle.overlay_terms.specs.Plane.{WholePoint}

-- what a step adds to twice the area on the left of its line, seen from the origin
abbrev pub turn_of : WholePoint → WholePoint → ℤ
turn_of from to = from.x *ℤ to.y -ℤ from.y *ℤ to.x

-- twice the area on the left of a line of points
abbrev pub turned : WholePoint → List WholePoint → ℤ
turned from [] = pos 0
turned from (to ∷ rest) = turn_of from to +ℤ turned to rest

-- twice an area in parts of a unit square, of which a unit has 2^40, whatever its sign
abbrev pub in_parts : ℤ → ℤ
in_parts twice = (if int_lt twice (pos 0) then neg_ℤ twice else twice) *ℤ pos 1099511627776
