-- Rings without a fault, whose points are in range, are rings.
use Rattle.std.specs.Prelude.{◌≡◌, ℕ, ◌+◌, ◌-◌, ◌<◌, ◌≤◌, nat_lt, nat_le, Bool, true, false, List, [], ◌∷◌, length, Some, None, All, if◌then◌else◌}
use Rattle.std.proofs.Common.{zero, suc, get_or, take, refl, subst, arith}
use Rattle.std.proofs.lemmas.Bool.{ltb-false}
use Rattle.std.proofs.lemmas.List.Elements.{All-nil, All-cons, All-head, All-tail, All-more}
use Rattle.overlay_terms.specs.Plane.{WholePoint, is_closed, ring_step_count, steps_max}
use Rattle.overlay_terms.specs.InputLaws.{IsClosed, IsRing}
use Rattle.overlay_terms.proofs.Options.{both_absent}
use Rattle.plane_base.specs.BaseLayer.{IsInRange, PointsInRange, ring_fault, first_ring_fault, rings_fault}
use Rattle.plane_base.specs.declared.fault.PlaneFault.TheVariants.{RingOpen, RingShort, TooManySegments}

-- a fact of the first elements and of the next one
all_more : {X : Type 0} (P : X → Type 0) (xs : List X) (i : ℕ) (x : X) → i < length xs → x ≡ get_or xs i x → P x → All P (take i xs) → All P (take (i + 1) xs)
all_more P xs i x h e p was = All-more P xs i x h was (subst P e p)

-- of some first points, at least two, all are in range, where a pair of neighbours is
pub in_range_more : (ring : List WholePoint) (i : ℕ) (a b : WholePoint) → 1 ≤ i → i < length ring → a ≡ get_or ring (i - 1) a → b ≡ get_or ring i b → IsInRange a → IsInRange b → (1 < i → All IsInRange (take i ring)) → All IsInRange (take (i + 1) ring)
in_range_more ring zero a b low high ea eb ra rb was = absurd (omega arith)
in_range_more ring (suc zero) a b low high ea eb ra rb was =
    all_more IsInRange ring 1 b high eb rb (all_more IsInRange ring 0 a (omega arith) ea ra (All-nil IsInRange))
in_range_more ring (suc (suc j)) a b low high ea eb ra rb was =
    all_more IsInRange ring (suc (suc j)) b high eb rb (was (omega arith))

-- rings of which one more has its points in range
pub rings_more : (rings : List (List WholePoint)) (i : ℕ) (ring : List WholePoint) → i < length rings → ring ≡ get_or rings i ring → PointsInRange ring → All PointsInRange (take i rings) → All PointsInRange (take (i + 1) rings)
rings_more = all_more PointsInRange

-- a ring without a fault, by its length and whether it is closed
ring_by : (ring : List WholePoint) (at : ℕ) (short closed : Bool) → nat_lt (length ring) 4 ≡ short → is_closed ring ≡ closed → (if short then Some (RingShort at) else (if closed then None else Some (RingOpen at))) ≡ None → PointsInRange ring → IsRing ring
ring_by ring at true closed few ends e in_range = absurd (cc)
ring_by ring at false false many ends e in_range = absurd (cc)
ring_by ring at false true many ends e in_range =
    let low = ltb-false (length ring) 4 many in
    record { closed = ends; in_range = in_range (omega arith) }

-- rings without a fault, whose points are in range, are rings
rings_from : (at : ℕ) (rings : List (List WholePoint)) → first_ring_fault at rings ≡ None → All PointsInRange rings → All IsRing rings
rings_from at [] e in_range = All-nil IsRing
rings_from at (ring ∷ rings) e in_range =
    All-cons IsRing ring rings
    (ring_by ring at (nat_lt (length ring) 4) (is_closed ring) refl refl (both_absent (ring_fault at ring) (first_ring_fault (at + 1) rings) e).first (All-head PointsInRange ring rings in_range))
    (rings_from (at + 1) rings (both_absent (ring_fault at ring) (first_ring_fault (at + 1) rings) e).second (All-tail PointsInRange ring rings in_range))

-- rings that a base layer may have, whose points are in range, are rings
pub are_rings : (rings : List (List WholePoint)) → rings_fault rings ≡ None → All PointsInRange rings → All IsRing rings
are_rings rings e =
    rings_from 0 rings (both_absent (first_ring_fault 0 rings) (if nat_le (ring_step_count rings) steps_max then None else Some TooManySegments) e).first

-- a ring without a fault is closed
closed_by : (ring : List WholePoint) (at : ℕ) (short closed : Bool) → is_closed ring ≡ closed → (if short then Some (RingShort at) else (if closed then None else Some (RingOpen at))) ≡ None → IsClosed ring
closed_by ring at true closed ends e = absurd (cc)
closed_by ring at false false ends e = absurd (cc)
closed_by ring at false true ends e = ends

-- rings without a fault are closed
closed_from : (at : ℕ) (rings : List (List WholePoint)) → first_ring_fault at rings ≡ None → All IsClosed rings
closed_from at [] e = All-nil IsClosed
closed_from at (ring ∷ rings) e =
    All-cons IsClosed ring rings (closed_by ring at (nat_lt (length ring) 4) (is_closed ring) refl (both_absent (ring_fault at ring) (first_ring_fault (at + 1) rings) e).first)
    (closed_from (at + 1) rings (both_absent (ring_fault at ring) (first_ring_fault (at + 1) rings) e).second)

-- rings that a base layer may have are closed
pub are_closed : (rings : List (List WholePoint)) → rings_fault rings ≡ None → All IsClosed rings
are_closed rings e =
    closed_from 0 rings (both_absent (first_ring_fault 0 rings) (if nat_le (ring_step_count rings) steps_max then None else Some TooManySegments) e).first
