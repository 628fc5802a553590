-- The rings of a base layer fit its record.
use Rattle.std.proofs.Common.{◌≡◌, ℕ, ◌+◌, ◌-◌, ◌^◌, ◌<◌, ◌≤◌, nat_lt, nat_le, Bool, true, false, cond, ◌&&◌, List, [], ◌∷◌, length, Option, Some, None, All, refl, ap, arith}
use Rattle.std.specs.List.{list_all}
use Rattle.std.specs.Option.{is_none}
use Rattle.std.proofs.lemmas.Bool.{and_from, ltb-false, lt-ltb, leb-true}
use Rattle.std.proofs.lemmas.List.Sums.{sum_by-cons, get_or-le-sum_by, list_all-from_AllPass}
use Rattle.std.proofs.lemmas.List.Elements.{All-head, All-tail}
use Rattle.overlay_terms.specs.Plane.{WholePoint, is_closed, ring_step_count, steps_max}
use Rattle.overlay_terms.specs.InputLaws.{IsRing}
use Rattle.overlay_terms.proofs.Options.{both_absent}
use Rattle.overlay_terms.proofs.Coordinates.{in_range_passes}
use Rattle.plane_base.specs.BaseLayer.{ring_fault, first_ring_fault, rings_fault}
use Rattle.plane_base.specs.declared.fault.PlaneFault.{PlaneFault}
use Rattle.plane_base.specs.declared.fault.PlaneFault.TheVariants.{RingOpen, RingShort, TooManySegments}
use Rattle.store_terms.specs.BaseRecord.{whole_point, ring, rings}
use Rattle.store_terms.specs.RecordLaws.{BaseReadsBack}
use Rattle.store_terms.proofs.FieldLemmas.{whole_again}
use Rattle.store_terms.proofs.LayoutLemmas.{rings_is}

not_so : (b : Bool) (x : PlaneFault) (y : Option PlaneFault) → cond b (Some x) y ≡ None → b ≡ false
not_so true x y e = absurd cc
not_so false x y e = refl

so_then : (b : Bool) (x : PlaneFault) → cond b None (Some x) ≡ None → b ≡ true
so_then true x e = refl
so_then false x e = absurd cc

ring_long : (at : ℕ) (r : List WholePoint) → ring_fault at r ≡ None → 4 ≤ length r
ring_long at r e = ltb-false (length r) 4 (not_so (nat_lt (length r) 4) (RingShort at) (cond (is_closed r) None (Some (RingOpen at))) e)

rings_few : (at : ℕ) (rs : List (List WholePoint)) → first_ring_fault at rs ≡ None → length rs ≤ ring_step_count rs
rings_few at [] e = omega arith
rings_few at (r ∷ rs) e =
    let long = ring_long at r (both_absent (ring_fault at r) (first_ring_fault (at + 1) rs) e).first in
    let more = rings_few (at + 1) rs (both_absent (ring_fault at r) (first_ring_fault (at + 1) rs) e).second in
    let count : ring_step_count (r ∷ rs) ≡ (length r - 1) + ring_step_count rs = sum_by-cons (λ (x : List WholePoint). length x - 1) r rs in
    omega (arith, long, more, count)

points_fit : (r : List WholePoint) → IsRing r → list_all whole_point.fits r ≡ true
points_fit r is =
    list_all-from_AllPass whole_point.fits r (λ k d lt. let p = is.in_range k d lt in and_from _ _ (in_range_passes _ p.0) (in_range_passes _ p.1))

rings_fit : (rs : List (List WholePoint)) → ring_step_count rs ≤ steps_max → All IsRing rs → list_all ring.fits rs ≡ true
rings_fit [] few are = refl
rings_fit (r ∷ rs) few are =
    let count : ring_step_count (r ∷ rs) ≡ (length r - 1) + ring_step_count rs = sum_by-cons (λ (x : List WholePoint). length x - 1) r rs in
    and_from (ring.fits r) (list_all ring.fits rs)
    (and_from (nat_lt (length r) 65536) (list_all whole_point.fits r) (lt-ltb (length r) 65536 (omega (arith, few, count))) (points_fit r (All-head IsRing r rs are)))
    (rings_fit rs (omega (arith, few, count)) (All-tail IsRing r rs are))

base_fits : (rs : List (List WholePoint)) → rings_fault rs ≡ None → All IsRing rs → rings.fits rs ≡ true
base_fits rs good are =
    let whole_rings = (both_absent (first_ring_fault 0 rs) (cond (nat_le (ring_step_count rs) steps_max) None (Some TooManySegments)) good).first in
    let limit = so_then (nat_le (ring_step_count rs) steps_max) TooManySegments (both_absent (first_ring_fault 0 rs) (cond (nat_le (ring_step_count rs) steps_max) None (Some TooManySegments)) good).second in
    let few : ring_step_count rs ≤ steps_max = leb-true (ring_step_count rs) steps_max limit in
    and_from (nat_lt (length rs) 65536 && list_all ring.fits rs) (is_none (rings_fault rs))
    (and_from (nat_lt (length rs) 65536) (list_all ring.fits rs) (lt-ltb (length rs) 65536 (omega (arith, few, rings_few 0 rs whole_rings))) (rings_fit rs few are))
    (ap is_none good)

pub few_rings : (rs : List (List WholePoint)) → rings_fault rs ≡ None → length rs < 2 ^ 16
few_rings rs good =
    let whole_rings = (both_absent (first_ring_fault 0 rs) (cond (nat_le (ring_step_count rs) steps_max) None (Some TooManySegments)) good).first in
    let limit = so_then (nat_le (ring_step_count rs) steps_max) TooManySegments (both_absent (first_ring_fault 0 rs) (cond (nat_le (ring_step_count rs) steps_max) None (Some TooManySegments)) good).second in
    omega (arith, leb-true (ring_step_count rs) steps_max limit, rings_few 0 rs whole_rings)

pub short_rings : (rs : List (List WholePoint)) → rings_fault rs ≡ None → All (λ r. length r < 2 ^ 16) rs
short_rings rs good k d lt =
    let limit = so_then (nat_le (ring_step_count rs) steps_max) TooManySegments (both_absent (first_ring_fault 0 rs) (cond (nat_le (ring_step_count rs) steps_max) None (Some TooManySegments)) good).second in
    let part = get_or-le-sum_by (λ (x : List WholePoint). length x - 1) rs k d lt in
    omega (arith, leb-true (ring_step_count rs) steps_max limit, part)

pub base_reads_back : BaseReadsBack
base_reads_back rs good are = whole_again rings rings_is rs (base_fits rs good are)
