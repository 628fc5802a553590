-- Where a point lies against a feature.
use Rattle.std.specs.Prelude.{ℕ, pos, ◌+◌, ◌*◌, ◌≤ℤ◌, int_lt, Bool, false, ◌-◌, ◌%◌, ◌==◌, List, [], ◌∷◌, Option, Some, None, length, slice_get, flat_map, count_by, if◌then◌else◌}
use Rattle.std.specs.List.{list_any}
use Rattle.overlay_terms.specs.Plane.{WholePoint, Point, Segment, whole, same_place, segment_between, is_on, is_below}
use Rattle.overlay_terms.specs.Within.{IsWithin}
use Rattle.block_reading.specs.Jobs.{far_max}
use Rattle.feature_spots.specs.declared.spot.Spot.{Spot}
use Rattle.feature_spots.specs.declared.spot.Spot.TheVariants.{Outside, Inside, OnEdge, TooFine}

-- the greatest denominator of a point that is looked for, 2^42
abbrev pub fine_max : ℕ
fine_max = 4398046511104

-- whether a point lies on the segment of a step, or, where it has none, at the place of its ends
abbrev pub is_on_way : Point → WholePoint → Option Segment → Bool
is_on_way p a (Some s) = is_on s p
is_on_way p a None = same_place (whole a) p

-- whether a point lies on a step from one point to another; they may be one
abbrev pub is_on_step : Point → WholePoint × WholePoint → Bool
is_on_step p (a, b) = is_on_way p a (segment_between (a, b))

-- whether the segment of a step, if it has one, is below a point
abbrev pub is_way_below : Point → Option Segment → Bool
is_way_below p (Some s) = is_below s p
is_way_below p None = false

-- whether a step is below a point
abbrev pub is_step_below : Point → WholePoint × WholePoint → Bool
is_step_below p step = is_way_below p (segment_between step)

-- the steps from a point to the first of some points, from there to the next one, and so on
abbrev pub steps_from : WholePoint → List WholePoint → List (WholePoint × WholePoint)
steps_from a [] = []
steps_from a (b ∷ rest) = (a, b) ∷ steps_from b rest

-- the steps of a ring that ends at this point, or of one without points
abbrev pub steps_after : Option WholePoint → List WholePoint → List (WholePoint × WholePoint)
steps_after (Some last) ring = steps_from last ring
steps_after None ring = []

-- the steps of a ring; the one from its last point to its first is among them, and leads nowhere where the ring is closed
abbrev pub loop_of : List WholePoint → List (WholePoint × WholePoint)
loop_of ring = steps_after (slice_get ring (length ring - 1)) ring

-- the steps of all rings of a feature
abbrev pub steps_of : List (List WholePoint) → List (WholePoint × WholePoint)
steps_of rings = flat_map loop_of rings

-- even-odd: an odd number of steps is below a point
abbrev pub is_within : Point → List (WholePoint × WholePoint) → Bool
is_within p steps = count_by (is_step_below p) steps % 2 == 1

-- whether a point is on one of some steps
abbrev pub is_on_steps : Point → List (WholePoint × WholePoint) → Bool
is_on_steps p steps = list_any (is_on_step p) steps

-- where a point lies against a feature: not looked for, on a step, inside even-odd, or outside
abbrev pub spot_of : List (List WholePoint) → Point → Spot
spot_of rings p =
    if int_lt (pos fine_max) p.w then TooFine
    else if is_on_steps p (steps_of rings) then OnEdge
    else if is_within p (steps_of rings) then Inside
    else Outside

-- the number by which a row says it
abbrev pub number_of : Spot → ℕ
number_of Outside = 0
number_of Inside = 1
number_of OnEdge = 2
number_of TooFine = 3

-- ---- for which numbers all products fit 128 bits
-- a point whose coordinates lie within 2^41, as a block's do
pub record IsNear (a : WholePoint) : Type 0 where
  pub across : IsWithin far_max a.x
  pub along : IsWithin far_max a.y

-- a denominator from 1 to 2^42
abbrev pub IsFine : Point → Type 0
IsFine p = (pos 1 ≤ℤ p.w) × (p.w ≤ℤ pos fine_max)

-- how far a point lies at most from such a one, times its denominator: numbers of a point have 64 bits
abbrev pub past_max : ℕ
past_max = 9223372036854775808 + far_max * fine_max
