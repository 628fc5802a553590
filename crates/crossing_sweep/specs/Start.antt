-- Units with the places where a pass over a strip meets them first, in the order in which they are met.
use Rattle.std.specs.Prelude.{◌≡◌, pos, ◌+◌, ◌-ℤ◌, ◌&&◌, int_le, Bool, refl, List, map, All, AllPairs, Contains}
use Rattle.std.specs.Cmp.{IsTotalOrder, IsEquivalence, IsPartialEquivalence, IsPartialOrder}
use Rattle.std.specs.Cmp.{eq_by_cmp_equiv, partial_equiv_from_equiv, partial_order_from_agreeing_total}
use Rattle.std.specs.Ordering.{eq_by_cmp, as_partial_cmp, ordering_then, int_cmp}
use Rattle.std.specs.declared.cmp.Ordering.{Ordering}
use Rattle.std.specs.declared.cmp.Ordering.TheVariants.{Less}
use Rattle.std.proofs.lemmas.Cmp.{on_total, then_total, back_total}
use Rattle.overlay_terms.specs.Plane.{Segment, point_cmp}
use Rattle.overlay_terms.specs.Column.{border}
use Rattle.exact_point.specs.Crossing.{turn_of}
use Rattle.exact_point.specs.Place.{place, hpoint_cmp, hpoint_cmp_total}
use Rattle.exact_point.proofs.OnSegment.{leads}
use Rattle.arrange.specs.Directions.{Step, step_cmp_total}
use Rattle.arrange.specs.Units.{AreUnits}
use Rattle.arrange.specs.declared.unit.Unit.{Unit}
use Rattle.crossing_sweep.specs.StripInput.{Span, StripInput}
use Rattle.crossing_sweep.specs.Passing.{IsEntry}
use Rattle.crossing_sweep.specs.Beginning.{AreMet}
use Rattle.crossing_sweep.specs.declared.start.Start.{Start}

step_of : Start → Step
step_of s = record {
  across = s.unit.seg.right.x -ℤ s.unit.seg.left.x;
  up = s.unit.seg.right.y -ℤ s.unit.seg.left.y;
  forward = leads s.unit.seg s.ahead;
}

-- by the first place, then by direction, the vertical one first
abbrev pub start_cmp : Start → Start → Ordering
start_cmp a b = ordering_then (hpoint_cmp a.at b.at) (int_cmp (pos 0) (turn_of b.unit.seg a.unit.seg))

pub start_total : IsTotalOrder start_cmp
unfolding step_of
start_total = then_total (on_total (λ s. s.at) hpoint_cmp_total) (on_total step_of (back_total step_cmp_total))

-- the same first place and direction
abbrev pub same_start : Start → Start → Bool
same_start = eq_by_cmp start_cmp

pub same_start_equiv : IsEquivalence same_start
same_start_equiv = eq_by_cmp_equiv start_total

pub same_start_laws : IsPartialEquivalence same_start
same_start_laws = partial_equiv_from_equiv same_start_equiv

pub start_po : IsPartialOrder same_start (as_partial_cmp start_cmp)
start_po = partial_order_from_agreeing_total start_cmp start_total (λ p q. refl) (λ p q. refl)

-- a segment has a place in a closed strip
abbrev pub is_met : Span → Segment → Bool
is_met strip s = int_le s.left.x (border (strip.last + 1)) && int_le (border strip.first) s.right.x

-- the units of an input with a place of its closed strip, each once and with the first of
-- these, in the order of these places
pub record AreStarts (input : StripInput) (starts : List Start) : Type 0 where
  pub units : List Unit
  pub are : AreUnits input.marked units
  pub among : All (λ s. Contains units s.unit) starts
  pub entries : All (λ s. IsEntry input.strip s.unit.seg (place s.at)) starts
  pub met : AreMet input.strip (map (λ (u : Unit). u.seg) units) (map (λ (s : Start). s.unit.seg) starts)
  pub once : AllPairs (λ s t. ¬ (s.unit.seg ≡ t.unit.seg)) starts
  pub ordered : AllPairs (λ s t. ¬ (point_cmp (place t.at) (place s.at) ≡ Less)) starts
