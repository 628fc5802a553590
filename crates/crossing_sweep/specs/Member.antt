-- The members of a status, and the order of those of a bundle: by direction, the vertical one last.
use Rattle.std.specs.Prelude.{◌≡◌, ℕ, pos, ◌<◌, ◌-ℤ◌, Bool, refl, List, map, length, get_or}
use Rattle.std.specs.Cmp.{IsTotalOrder, IsEquivalence, IsPartialEquivalence, IsPartialOrder}
use Rattle.std.specs.Cmp.{eq_by_cmp_equiv, partial_equiv_from_equiv, partial_order_from_agreeing_total}
use Rattle.std.specs.Ordering.{eq_by_cmp, as_partial_cmp, int_cmp, is_lt}
use Rattle.std.specs.declared.cmp.Ordering.{Ordering}
use Rattle.std.specs.declared.cmp.Ordering.TheVariants.{Equal}
use Rattle.std.proofs.lemmas.Cmp.{on_total}
use Rattle.overlay_terms.specs.Plane.{Point, Segment, whole, point_cmp, side_of}
use Rattle.exact_point.specs.Crossing.{turn_of}
use Rattle.exact_point.proofs.OnSegment.{leads}
use Rattle.arrange.specs.Directions.{Step, step_cmp_total}
use Rattle.arrange.specs.declared.unit.Unit.{Unit}
use Rattle.crossing_sweep.specs.declared.member.Member.{Member}

step_of : Member → Step
step_of m = record {
  across = m.unit.seg.right.x -ℤ m.unit.seg.left.x;
  up = m.unit.seg.right.y -ℤ m.unit.seg.left.y;
  forward = leads m.unit.seg m.ahead;
}

-- by direction, the vertical one last
abbrev pub member_cmp : Member → Member → Ordering
member_cmp a b = int_cmp (pos 0) (turn_of a.unit.seg b.unit.seg)

pub member_total : IsTotalOrder member_cmp
unfolding step_of
member_total = on_total step_of step_cmp_total

-- the same direction
abbrev pub same_member : Member → Member → Bool
same_member = eq_by_cmp member_cmp

pub same_member_equiv : IsEquivalence same_member
same_member_equiv = eq_by_cmp_equiv member_total

pub same_member_laws : IsPartialEquivalence same_member
same_member_laws = partial_equiv_from_equiv same_member_equiv

pub member_po : IsPartialOrder same_member (as_partial_cmp member_cmp)
member_po = partial_order_from_agreeing_total member_cmp member_total (λ p q. refl) (λ p q. refl)

-- the segment of a member
abbrev pub seg_of : Member → Segment
seg_of m = m.unit.seg

-- the units of some members
abbrev pub units_of : List Member → List Unit
units_of members = map (λ m. m.unit) members

-- the segments of some members
abbrev pub segs_of : List Member → List Segment
segs_of members = map seg_of members

-- whether a segment ends after a place
abbrev pub ends_after : Point → Segment → Bool
ends_after r u = is_lt (point_cmp r (whole u.right))

-- a place lies on the line of the member with a number
pub record IsHeldAt (r : Point) (status : List Member) (number : ℕ) : Type 0 where
  pub there : number < length status
  pub level : (d : Member) → side_of (get_or status number d).unit.seg r ≡ Equal
