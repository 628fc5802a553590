-- Of a base layer no more segments pass a test than it may have.
use Rattle.std.specs.Prelude.{◌≡◌, ℕ, ◌-◌, ◌≤◌, nat_le, Bool, true, false, List, [], ◌∷◌, length, filter, filter_map, drop, Option, Some, None, if◌then◌else◌}
use Rattle.std.specs.List.{cons_option}
use Rattle.std.proofs.Common.{suc, refl, arith}
use Rattle.std.proofs.lemmas.Bool.{leb-true}
use Rattle.std.proofs.lemmas.List.{length-map, length-drop}
use Rattle.std.proofs.lemmas.List.Concat.{length-flat_map}
use Rattle.std.proofs.lemmas.List.Sums.{length-filter, count_by-le-length, sum_by-le-sum_by}
use Rattle.std.proofs.lemmas.Slice.Zip.{length-zip}
use Rattle.overlay_terms.specs.Plane.{WholePoint, segment_between, ring_steps, ring_segments, segments_of, ring_step_count, steps_max}
use Rattle.overlay_terms.specs.Layers.{Marked}
use Rattle.overlay_terms.proofs.Options.{both_absent}
use Rattle.plane_base.specs.BaseLayer.{first_ring_fault, rings_fault}
use Rattle.plane_base.specs.declared.fault.PlaneFault.{PlaneFault}
use Rattle.plane_base.specs.declared.fault.PlaneFault.TheVariants.{TooManySegments}
use Rattle.arrange.specs.Marked.{marked_by}
use Rattle.arrange.proofs.KeptLemmas.{mark}

-- what is made of some elements is no more than they are
filter_map-le-length : {X Y : Type 0} (h : X → Option Y) (xs : List X) → length (filter_map h xs) ≤ length xs
filter_map-le-length h [] = omega arith
filter_map-le-length {X} {Y} h (x ∷ xs) = one (h x) (filter_map h xs) (filter_map-le-length h xs)
  where
    one : (o : Option Y) (ys : List Y) → length ys ≤ length xs → length (cons_option o ys) ≤ suc (length xs)
    one None ys few = omega (arith, few)
    one (Some y) ys few = omega (arith, few)

-- a ring has no more segments than steps
ring_few : (ring : List WholePoint) → length (ring_segments ring) ≤ length ring - 1
ring_few ring = omega (arith, filter_map-le-length segment_between (ring_steps ring), length-zip ring (drop 1 ring), length-drop 1 ring)

-- nor have all rings
segments_few : (rings : List (List WholePoint)) → length (segments_of rings) ≤ ring_step_count rings
segments_few rings =
    omega (arith, length-flat_map ring_segments rings, sum_by-le-sum_by (λ ring. length (ring_segments ring)) (λ ring. length ring - 1) rings ring_few)

-- rings without a fault have few steps
steps_by : (rings : List (List WholePoint)) (within : Bool) → nat_le (ring_step_count rings) steps_max ≡ within → (if within then None else Some TooManySegments) ≡ None → ring_step_count rings ≤ steps_max
steps_by rings true few e = leb-true (ring_step_count rings) steps_max few
steps_by rings false many e = absurd (cc)

steps_few : (rings : List (List WholePoint)) → rings_fault rings ≡ None → ring_step_count rings ≤ steps_max
steps_few rings e =
    let limit : Option PlaneFault = if nat_le (ring_step_count rings) steps_max then None else Some TooManySegments in
    steps_by rings (nat_le (ring_step_count rings) steps_max) refl (both_absent (first_ring_fault 0 rings) limit e).second

pub passing_few : (p : Marked → Bool) (layer : ℕ) (rings : List (List WholePoint)) → rings_fault rings ≡ None → length (filter p (marked_by layer rings)) ≤ steps_max
passing_few p layer rings e =
    let marked : List Marked = marked_by layer rings in
    let count = length-filter p marked in
    let some = count_by-le-length p marked in
    let all : length marked ≡ length (segments_of rings) = length-map (segments_of rings) (mark layer) in
    omega (arith, count, some, all, segments_few rings, steps_few rings e)
