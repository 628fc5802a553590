use Rattle.std.specs.Prelude.{ℕ, ◌+◌, [], ◌∷◌, if◌then◌else◌, ◌<◌}
use Rattle.std.specs.Prelude.{List, length, nat_lt, nat_le, Option, Some, None, All}
use Rattle.std.specs.Option.{option_or}
use Rattle.overlay_terms.specs.Plane.{WholePoint, InRange, is_closed, ring_step_count, steps_max}
use Rattle.plane_base.specs.declared.fault.PlaneFault.{PlaneFault}
use Rattle.plane_base.specs.declared.fault.PlaneFault.TheVariants.{RingOpen, RingShort, TooManySegments}

-- both coordinates of a point are in range
abbrev pub IsInRange : WholePoint → Type 0
IsInRange p = InRange p.x × InRange p.y

-- the points of a ring that has a step are in range
abbrev pub PointsInRange : List WholePoint → Type 0
PointsInRange ring = 1 < length ring → All IsInRange ring

-- what is wrong with a ring, by its index: its length first
abbrev pub ring_fault : ℕ → List WholePoint → Option PlaneFault
ring_fault at ring =
    if nat_lt (length ring) 4 then Some (RingShort at) else (if is_closed ring then None else Some (RingOpen at))

-- the first fault of the rings, the first of which has the given index
abbrev pub first_ring_fault : ℕ → List (List WholePoint) → Option PlaneFault
first_ring_fault at [] = None
first_ring_fault at (ring ∷ rings) = option_or (ring_fault at ring) (first_ring_fault (at + 1) rings)

-- what is wrong with the rings of a base layer: the first ring's fault, then too many steps
abbrev pub rings_fault : List (List WholePoint) → Option PlaneFault
rings_fault rings =
    option_or (first_ring_fault 0 rings) (if nat_le (ring_step_count rings) steps_max then None else Some TooManySegments)
